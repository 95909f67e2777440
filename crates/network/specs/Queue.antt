-- What a queue shows of itself.
use Rattle.std.specs.Prelude.{ℕ, List}
use Rattle.network.specs.declared.message.Message.{Message}
use Rattle.network.specs.declared.queue.Queue.{Queue}

module _ {C R : Type 0} where
  -- the messages that wait, in the order of posting
  abbrev pub waiting_in : Queue C R → List (Message C)
  waiting_in q = q.items.items

  -- how many messages can wait at once
  abbrev pub capacity_of : Queue C R → ℕ
  capacity_of q = q.capacity
