use Rattle.std.proofs.Common.{◌≡◌, sym, ◌∙◌, refl, rules}
use Rattle.crossing.specs.Crossing.{week_messages}
use Rattle.crossing.proofs.Messages.{week_long, week_contents, one_more, place_behind, last_place}
use Rattle.crossing.proofs.cross.cross_over.Goals as goal

pub receive-days-requires : goal.receive-days-requires
receive-days-requires g c =
    let days = c.args.week.now.days in
    let whole = c.args.week.now.whole in
    let more = one_more days _ _ c.day_message.result whole (c.send-posted.ensures.fixed ∙ c.requires.room) c.send-posted.ensures.after in
    (search rules, rw (c.try_taking-held.ensures.after, c.try_taking-missing.ensures.after, c.post.ensures.after, more.1, week_contents) (week_long 0 days ∙ whole, refl))

pub returns : goal.returns
returns g c =
    let ready = g.N.Network.ready in
    let days = c.args.week.now.days in
    let whole = c.args.week.now.whole in
    let more = one_more days _ _ c.day_message.result whole (c.send-posted.ensures.fixed ∙ c.requires.room) c.send-posted.ensures.after in
    let filled : g.N.Network.waiting c.post.new.self ≡ week_messages 0 days = rw c.post.ensures.after more.1 in
    let tried : g.N.Network.waiting c.try_taking-missing.new.network ≡ week_messages 0 days = rw c.try_taking-missing.ensures.after filled in
    let waits : g.N.Network.waiting c.try_taking-held.new.network ≡ week_messages 0 days = rw c.try_taking-held.ensures.after tried in
    let arrived : c.receive-days.result.0 ≡ days = rw (c.receive-days.ensures.days, waits) (week_contents 0 days) in
    record {
      same = arrived;
      seen_same = c.same_week.ensures.1 (sym arrived);
      sequence = rw (c.receive-days.ensures.order, waits, week_long) refl;
      posted = c.send-posted.ensures.value;
      taken = rw (c.count.ensures, c.receive-days.ensures.after) (search rules);
      full = rw (c.err-full.ensures.value, c.post.ensures.value) more.0;
      missing = rw (c.try_taking-missing.ensures.value, filled) (place_behind ready days _ whole c.send-posted.ensures.value);
      held = rw (c.try_taking-held.ensures.value, tried) (last_place ready days whole);
    }
