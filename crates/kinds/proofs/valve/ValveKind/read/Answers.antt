use Rattle.std.proofs.Common.{arith, rules}
use Rattle.std.proofs.lemmas.Int.{of_z-to_z}
use Rattle.kinds.specs.Valves.{four_bytes}
use Rattle.kinds.proofs.valve.ValveKind.read.Goals as goal

pub returns : goal.returns
returns c =
    let spelt = four_bytes c.args.from.now (search rules) in
    grind (arith, of_z-to_z, c.type_inv.from 0, c.type_inv.from 1)
