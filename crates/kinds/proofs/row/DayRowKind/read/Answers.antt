use Rattle.std.proofs.Common.{◌≡◌, None, arith, rules}
use Rattle.kinds.specs.Row.{mode_of, hour_bits, hours_legal}
use Rattle.kinds.specs.Faults.{fault_bad}
use Rattle.kinds.specs.Rows.{no_mode, one_illegal, bytes_from}
use Rattle.kinds.proofs.row.DayRowKind.read.Goals as goal

pub returns-in_err-mode : goal.returns-in_err-mode
returns-in_err-mode c =
    let bs = c.args.from.now in
    let whole = c.in_ok-bytes.ensures.1 in
    let none : mode_of (hour_bits bs c.loop-hour.hour) ≡ None = rw (← whole.same) (grind (arith, c.in_err-mode.ensures, c.code_at.ensures)) in
    let bad = fault_bad 6 bs (hours_legal bs 24) whole.long (one_illegal bs 24 c.loop-hour.hour (omega arith) (no_mode _ none)) in
    search rules

pub returns : goal.returns
returns c =
    let whole = c.in_ok-bytes.ensures.1 in
    bytes_from c.args.from.now c.loop-hour.mode-items whole.long (λ i. omega (arith, c.type_inv.from i)) (λ k h. rw (← whole.same) (c.loop-hour.invariant.1 k (omega arith)))
