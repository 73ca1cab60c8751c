-- What sends in a row do to the moments.
use Rattle.std.proofs.Common.{ℕ, ◌+◌, ◌≤◌, arith}
use Rattle.block_disk.specs.View.{View, Now, sent_now, Passes}
use Rattle.block_disk.proofs.Passing.{Between, passes_none, sends_then_sends}

-- time goes on by sends of at most so many bytes
pub record SentOn (most : ℕ) (old new : View) : Type 0 where
  pub time : Passes old new (Now old) (Between old new)
  pub count : sent_now new ≤ sent_now old + most

pub sent_none : (at : View) → SentOn 0 at at
sent_none at = record { time = passes_none at (Now at) (Between at at); count = omega arith }

pub sent_more : (most more : ℕ) (old new : View) → most ≤ more → SentOn most old new → SentOn more old new
sent_more most more old new within sent = record { time = sent.time; count = omega (arith, sent.count, within) }

pub sent_then : (first second : ℕ) (old mid new : View) → SentOn first old mid → SentOn second mid new → SentOn (first + second) old new
sent_then first second old mid new one two = record {
  time = sends_then_sends old mid new one.time two.time;
  count = omega (arith, one.count, two.count);
}
