use Rattle.std.proofs.Common.{rules}
use Rattle.std.proofs.lemmas.Iterator.{YieldsList-from_slice, YieldsList-from_zip, same_from_all}
use Rattle.crossing.proofs.compare.same_week.Goals as goal

pub returns : goal.returns
returns g c =
    same_from_all c.all.new.self _ _ _ _ c.all.ensures.ran (YieldsList-from_zip (YieldsList-from_slice _ cc) (YieldsList-from_slice _ cc))
    (search rules) (λ x q k. search rules) (λ x q k. search rules)
