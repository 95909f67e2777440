use Rattle.std.proofs.Common.{◌≡◌, ◌+◌, IsTrue, refl, arith}
use Rattle.crossing.proofs.Messages.{post_one}
use Rattle.crossing.proofs.send.send.Goals as goal
use Rattle.crossing.proofs.send.send.Goals.{then-is_ok, else-is_ok}

pub loop-day-preserved : goal.loop-day-preserved
loop-day-preserved g c =
    let step = post_one c.args.week.now.days c.loop-day.day c.loop-day.posted _ _ _ c.content-item.result c.args.week.now.whole c.requires.room (omega arith) c.loop-day.invariant in
    let accepted : IsTrue c.is_ok.result = rw (c.is_ok.ensures.value, c.post.ensures.value, step.0) refl in
    let posted : c.if-is_ok.posted ≡ c.loop-day.posted + 1 = elim c.if-is_ok.branch [ then-is_ok w ↦ w.posted-is | else-is_ok w ↦ cc ] in
    record { counted = omega (arith, step.1.counted); whole = cc; fixed = cc }
