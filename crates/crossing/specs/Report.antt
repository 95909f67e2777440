-- What was seen of a week that crossed a network, as it is printed.
use Rattle.std.specs.Prelude.{ℕ, Bool, true, false, List, ◌++◌, Some, None, codes, decimal, Option, slice_index_or}
use Rattle.std.specs.List.{flat_map}
use Rattle.refusal.specs.Text.{refusal_text}
use Rattle.network.specs.declared.fault.NetworkFault.{NetworkFault}
use Rattle.network.specs.Fault.{refusal_of}
use Rattle.week.specs.declared.day.Day.TheVariants.{Sunday}
use Rattle.week.specs.declared.verdict.Verdict.{Verdict}
use Rattle.week.specs.declared.week.Week.{Week}
use Rattle.week.specs.Report.{day_text, saved_text, verdict_text}
use Rattle.week.specs.Week.{week_days}
use Rattle.kinds.specs.declared.row.DayRow.{DayRow}
use Rattle.crossing.specs.declared.crossing.Crossing.{Crossing}
use Rattle.crossing.specs.declared.crossing.Crossings.{Crossings}
use Rattle.crossing.specs.declared.crossing.Order.{Order}
use Rattle.crossing.specs.declared.crossing.Order.TheVariants.{OldestFirst, NewestFirst}
use Rattle.crossing.specs.Crossing.{verdict_after}

abbrev pub order_text : Order → List ℕ
order_text OldestFirst = codes "oldest first"
order_text NewestFirst = codes "newest first"

abbrev pub equal_text : Bool → List ℕ
equal_text true = codes "arrived equal"
equal_text false = codes "did not arrive equal"

abbrev pub tried_text : Option NetworkFault → List ℕ → List ℕ
tried_text None otherwise = otherwise
tried_text (Some e) otherwise = codes "refused, " ++ refusal_text (refusal_of e)

abbrev pub days_text : List ℕ → List ℕ
days_text ds = flat_map (λ d. codes " " ++ day_text (slice_index_or week_days d Sunday)) ds

module _ {K : Type 0} where
  abbrev pub refusals_text : Crossing K → List ℕ
  refusals_text c =
      codes "  One more: " ++ (tried_text c.full (codes "accepted") ++ (codes "\n  A place behind the last: " ++ (tried_text c.missing (codes "accepted") ++ (codes "\n  The last place first: " ++ tried_text c.held (codes "ready")))))

  abbrev pub counts_text : Crossing K → List ℕ
  counts_text c = decimal c.posted ++ (codes " rows posted, " ++ (decimal c.taken ++ (codes " taken, " ++ equal_text c.equal)))

  abbrev pub crossing_text : List ℕ → Order → Crossing K → List ℕ
  crossing_text network order c =
      codes "Over the " ++ (network ++ (codes ", " ++ (order_text order ++ (codes ": " ++ (counts_text c ++ (codes "\n  Taken:" ++ (days_text c.sequence ++ (codes "\n" ++ refusals_text c))))))))

-- a week and its saves, what was seen of its crossings, and the verdict
abbrev pub report_text : Week DayRow → List ℕ → List ℕ → Crossings DayRow → Verdict → List ℕ
report_text week first second c saves =
    saved_text week first second
    ++ (codes "\n" ++ (crossing_text (codes "lanes") OldestFirst c.straight ++ (codes "\n" ++ (crossing_text (codes "lanes") NewestFirst c.mixed
    ++ (codes "\n" ++ (crossing_text (codes "open bus") NewestFirst c.turned ++ (codes "\n" ++ verdict_text (verdict_after saves c))))))))
