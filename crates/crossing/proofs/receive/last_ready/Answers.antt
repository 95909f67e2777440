use Rattle.std.proofs.Common.{rules, ◌≡◌, ◌<◌, ℕ, List, length, slice_index_or, [], refl, true, false}
use Rattle.std.proofs.iter.runs.Sources.{ranges}
use Rattle.std.specs.Option.{MatchOption}
use Rattle.crossing.proofs.Places.{last_found}
use Rattle.crossing.proofs.receive.last_ready.Goals as goal

pub returns : goal.returns
returns g c =
    let ms = g.N.Network.waiting c.args.network.now in
    let ready = g.N.Network.ready ms in
    -- the read of a list says at which place `ranges` is to look
    let found : (ks : List ℕ) (j : ℕ) → slice_index_or ks j 0 ≡ slice_index_or ks j 0 → MatchOption c.rfind.result (j < length ms → ready j ≡ false) (λ k. (k < length ms) × (ready k ≡ true) × (k < j → j < length ms → ready j ≡ false)) =
    search (rules, ranges) in
    last_found g.N.Network.ready g.met.N.Network.progress ms c.rfind.result (λ j. found [] j refl)
