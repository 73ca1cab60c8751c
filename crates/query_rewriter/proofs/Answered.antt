-- What a filter's answer on a box says of slots.
use Rattle.std.proofs.Common.{ℕ, ℤ, ◌≡◌, ◌-◌, ◌<◌, ◌≤◌, ◌≤ℤ◌, arith, Bool, true, false, subst, sym}
use Rattle.chart_grid.specs.declared.axis.Axis.{Axis}
use Rattle.chart_grid.specs.Slots.{slot_time}
use Rattle.value_filter.specs.declared.box_answers.BoxAnswer.{BoxAnswer}
use Rattle.value_filter.specs.declared.box_answers.BoxAnswer.TheVariants.{All, Nothing, Mixed}
use Rattle.value_filter.specs.Expressions.{Expression, holds_at}
use Rattle.value_filter.specs.Boxes.{Interval, IsWithin, IsAnswer}
use Rattle.query_rewriter.specs.Scans.{IsSo, Says}
use Rattle.query_rewriter.proofs.Windows.{time_rises}

-- the time of a slot lies from the time of the first one to that of the last one
within_times : (axis : Axis) (a b i : ℕ) (s e : ℤ) → s ≡ slot_time axis a → e ≡ slot_time axis (b - 1) → a ≤ i → i < b
    → IsWithin (s, e) (slot_time axis i)
within_times axis a b i s e first last from to = (
  (let P : ℤ → Type 0 = λ z. z ≤ℤ slot_time axis i in subst P (sym first) (time_rises axis a i from)),
  (let P : ℤ → Type 0 = λ z. slot_time axis i ≤ℤ z in subst P (sym last) (time_rises axis i (b - 1) (omega arith))),
)

so : (f : Expression) (axis : Axis) (a b : ℕ) (values : Interval) (s e : ℤ) (truth : Bool) → s ≡ slot_time axis a
    → e ≡ slot_time axis (b - 1)
    → ((t v : ℤ) → IsWithin (s, e) t → IsWithin values v → holds_at f t v ≡ truth) → IsSo f axis a b values truth
so f axis a b values s e truth first last h = record {
  each = λ i v from to low high. h (slot_time axis i) v (within_times axis a b i s e first last from to) (low, high);
}

pub says : (f : Expression) (axis : Axis) (a b : ℕ) (values : Interval) (s e : ℤ) (answer : BoxAnswer) → s ≡ slot_time axis a
    → e ≡ slot_time axis (b - 1)
    → ((t v : ℤ) → IsAnswer f (s, e) values All → IsWithin (s, e) t → IsWithin values v → holds_at f t v ≡ true)
    → ((t v : ℤ) → IsAnswer f (s, e) values Nothing → IsWithin (s, e) t → IsWithin values v → holds_at f t v ≡ false)
    → IsAnswer f (s, e) values answer → Says f axis (a, b) values answer
says f axis a b values s e All first last all nothing is = so f axis a b values s e true first last (λ t v. all t v is)
says f axis a b values s e Nothing first last all nothing is = so f axis a b values s e false first last (λ t v. nothing t v is)
says f axis a b values s e Mixed first last all nothing is = tt
