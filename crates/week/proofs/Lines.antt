-- The lines of a report, one more at a time, and the report before its verdict and with it.
use Rattle.std.proofs.Common.{◌≡◌, ℕ, ◌+◌, ◌<◌, List, [], ◌++◌, length, take, codes, sym, ap, ◌∙◌, append_assoc, arith}
use Rattle.std.specs.Prelude.{decimal, slice_index_or}
use Rattle.std.specs.List.{flat_map, zip}
use Rattle.std.proofs.lemmas.List.{take_more, flat_map_more}
use Rattle.std.proofs.lemmas.Slice.Zip.{get_or-zip, length-zip}
use Rattle.kinds.specs.declared.row.DayRow.{DayRow}
use Rattle.week.specs.declared.verdict.Verdict.{Verdict}
use Rattle.week.specs.declared.week.Week.{Week}
use Rattle.week.specs.Report.{lines_text, verdict_text, accepted_text}
use Rattle.week.specs.Week.{week_days}

-- one pair more, at an index that both lists have
pub pairs_more : {A B X : Type 0} (f : A × B → List X) (xs : List A) (ys : List B) (i : ℕ) (x : A) (y : B) → i < length xs → i < length ys → x ≡ slice_index_or xs i x → y ≡ slice_index_or ys i y
    → flat_map f (take (i + 1) (zip xs ys)) ≡ flat_map f (take i (zip xs ys)) ++ f (x, y)
pairs_more f xs ys i x y in_xs in_ys here there =
    let last : (x, y) ≡ slice_index_or (zip xs ys) i (x, y) = cc (get_or-zip xs ys i (x, y) in_xs in_ys) in
    ap (flat_map f) (take_more (zip xs ys) i (x, y) (omega (arith, length-zip xs ys))) ∙ rw (← last) (sym (flat_map_more f [] (take i (zip xs ys)) (x, y)))

-- what is said before a verdict, and then the verdict t on a line of its own, as one text
pub append_verdict : (a lines b m c n d nl t : List ℕ)
    → (a ++ (lines ++ (b ++ (m ++ (c ++ (n ++ d)))))) ++ (nl ++ t) ≡ a ++ (lines ++ (b ++ (m ++ (c ++ (n ++ ((d ++ nl) ++ t))))))
append_verdict a lines b m c n d nl t = simp append_assoc

-- the report on an accepted week, written out to its verdict
pub accepted_text-whole : (week : Week DayRow) (first second : List ℕ) (verdict : Verdict)
    → accepted_text week first second verdict
    ≡ codes "Hours from midnight: '.' off, '-' low, '#' comfort\n"
    ++ (lines_text week_days week.days
    ++ (codes "First save:  " ++ (decimal (length first) ++ (codes " bytes\nSecond save: " ++ (decimal (length second) ++ (codes " bytes\n" ++ verdict_text verdict))))))
accepted_text-whole week first second verdict =
    append_verdict (codes "Hours from midnight: '.' off, '-' low, '#' comfort\n") (lines_text week_days week.days) (codes "First save:  ") (decimal (length first)) (codes " bytes\nSecond save: ") (decimal (length second)) (codes " bytes") (codes "\n") (verdict_text verdict)
