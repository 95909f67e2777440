use Rattle.std.proofs.Common.{arith, rules}
use Rattle.std.proofs.lemmas.List.FromFn.{fill_by_all}
use Rattle.kinds.specs.Row.{row_byte}
use Rattle.kinds.proofs.row.DayRowKind.write.Goals as goal

pub returns : goal.returns
returns c =
    let made = c.from_fn.ensures.items in
    (search rules, fill_by_all (row_byte c.args.self.now.hours) c.from_fn.result 6 0 made.long (λ k h. grind (arith, (made.at k 0 h).2)))
