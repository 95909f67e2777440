use Rattle.std.proofs.Common.{arith}
use Rattle.std.proofs.lemmas.Grind.{elements}
use Rattle.std.proofs.lemmas.Result.{err_from_is_err_and}
use Rattle.week.proofs.Parts.{place_after_monday, joined}
use Rattle.week.proofs.week.Week.load.Goals as goal

pub returns-in_err-days-2 : goal.returns-in_err-days-2
returns-in_err-days-2 g c =
    let p = err_from_is_err_and c.from_residual-in_err-days-2.result c.from_residual-in_err-days-2.ensures.1 in
    let told = c.in_err-days-2.ensures in
    rw (p.1, p.2, told.1) (told.0, λ k h. grind (arith, c.loop-day.invariant.1 k c.in_ok-days.field-0, place_after_monday, g.met.K.Kind.readable))

pub loop-day-preserved : goal.loop-day-preserved
loop-day-preserved g c = grind (arith, elements, place_after_monday)

pub returns : goal.returns
returns g c =
    let monday = c.in_ok-days.field-0 in
    joined g.K.Kind.bytes g.K.Kind.width c.args.bytes.now c.loop-day.days monday c.loop-day.invariant.0 (λ k h. c.loop-day.invariant.1 k monday (omega arith))
