use Rattle.std.proofs.Common.{◌++◌, length, codes, arith, rules}
use Rattle.std.proofs.lemmas.Grind.{common_steps}
use Rattle.std.proofs.lemmas.List.{take_all}
use Rattle.std.proofs.lemmas.Slice.Zip.{zip_turn, zip_end, length-zip}
use Rattle.week.specs.Report.{line_text}
use Rattle.week.specs.Week.{week_days}
use Rattle.week.proofs.Lines.{pairs_more}
use Rattle.week.proofs.report.DayLinesDisplay.fmt.Goals as goal

pub loop-day-preserved : goal.loop-day-preserved
loop-day-preserved g c =
    let turn = zip_turn week_days c.args.self.now.0.now.days _ c.into_iter-day-iterator.result _ c.next.new.self _ (search rules) (search rules) c.loop-day.yielded_by _ c.in-Some.is c.next.ensures.steps in
    let more = pairs_more (λ p. line_text p.0 p.1 ++ codes "\n") week_days c.args.self.now.0.now.days (length c.loop-day.yielded) c.in-Some.field-0-0.now c.in-Some.row.now turn.0 turn.1 (turn.2 _) (turn.3 _) in
    grind (arith, common_steps)

pub returns-clause-writes : goal.returns-clause-writes
returns-clause-writes g c =
    let all = zip_end week_days c.args.self.now.0.now.days _ c.into_iter-day-iterator.result _ c.next.new.self _ (search rules) (search rules) c.loop-day.yielded_by c.in-None.is c.next.ensures.steps in
    search (rules, take_all, length-zip)
