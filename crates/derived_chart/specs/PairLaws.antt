-- Two lists as two trees: what asks and turns keep of them.
use Rattle.std.proofs.Common.{◌≡◌, ℤ, ◌≤◌, ◌^◌, Bool, true, false, List, length, Option, refl, sym, ◌∙◌, ap, subst, arith}
use Rattle.om3_coeff.specs.declared.key.Key.{Key}
use Rattle.om3_coeff.specs.declared.errors.NodeError.{NodeError}
use Rattle.om3_coeff.specs.declared.errors.NodeError.TheVariants.{DiskFault, Damaged, Missing, BadCoefficient}
use Rattle.om3_coeff.specs.Spans.{AreSlots}
use Rattle.om3_coeff.specs.View.{Agrees, HasCause, StaysSame}
use Rattle.om3_coeff.specs.ListNodes.{list_view, list_stays}
use Rattle.om3_coeff.proofs.ListLemmas.{list_agrees}
use Rattle.derived_chart.specs.Sums.{one_of}
use Rattle.derived_chart.specs.Pairs.{pair_view, count_of, AreSame, KeepsPair}

pub pair_keeps : (second : Bool) (xs ys : List (Option ℤ)) → KeepsPair second second xs ys xs ys
pair_keeps second xs ys = record { side = refl; lists = (refl, refl) }

pub same_on : {xs ys vs ws xs' ys' : List (Option ℤ)} → AreSame xs ys vs ws → AreSame vs ws xs' ys' → AreSame xs ys xs' ys'
same_on first second = (second.0 ∙ first.0, second.1 ∙ first.1)

pub pair_keeps_on : {one two three : Bool} {xs ys vs ws xs' ys' : List (Option ℤ)} → KeepsPair one two xs ys vs ws
    → KeepsPair two three vs ws xs' ys' → KeepsPair one three xs ys xs' ys'
pair_keeps_on first second = record { side = second.side ∙ first.side; lists = same_on first.lists second.lists }

stays : (second : Bool) (xs ys xs' ys' : List (Option ℤ)) → AreSame xs ys xs' ys' → (a b c d : Option Key)
    → StaysSame (pair_view second xs ys a b) (pair_view second xs' ys' c d)
stays false xs ys xs' ys' same a b c d = list_stays xs xs' a c same.0
stays true xs ys xs' ys' same a b c d = list_stays ys ys' b d same.1

pub pair_stays : {one two : Bool} {xs ys xs' ys' : List (Option ℤ)} → KeepsPair one two xs ys xs' ys' → (a b c d : Option Key)
    → StaysSame (pair_view one xs ys a b) (pair_view two xs' ys' c d)
pair_stays {one} {two} {xs} {ys} {xs'} {ys'} kept a b c d =
    let P : Bool → Type 0 = λ s. StaysSame (pair_view one xs ys a b) (pair_view s xs' ys' c d) in
    subst P (sym kept.side) (stays one xs ys xs' ys' kept.lists a b c d)

pub same_counts : (side : Bool) {xs ys xs' ys' : List (Option ℤ)} → AreSame xs ys xs' ys' → count_of side xs' ys' ≡ count_of side xs ys
same_counts false same = ap length same.0
same_counts true same = ap length same.1

agrees : (second : Bool) (xs ys : List (Option ℤ)) (a b : Option Key) → AreSlots xs → AreSlots ys → length xs ≤ 2 ^ 35 → length ys ≤ 2 ^ 35
    → Agrees (pair_view second xs ys a b) (one_of second xs ys)
agrees false xs ys a b first second few also = list_agrees xs a first few
agrees true xs ys a b first second few also = list_agrees ys b second also

pub pair_agrees : (second : Bool) {xs ys xs' ys' : List (Option ℤ)} → AreSame xs ys xs' ys' → (a b : Option Key) → AreSlots xs'
    → AreSlots ys' → length xs' ≤ 2 ^ 35 → length ys' ≤ 2 ^ 35 → Agrees (pair_view second xs' ys' a b) (one_of second xs ys)
pair_agrees second {xs} {ys} {xs'} {ys'} same a b first other few also =
    let P : List (Option ℤ) → Type 0 = λ l. Agrees (pair_view second xs' ys' a b) (one_of second l ys) in
    let Q : List (Option ℤ) → Type 0 = λ l. Agrees (pair_view second xs' ys' a b) (one_of second xs' l) in
    subst P same.0 (subst Q same.1 (agrees second xs' ys' a b first other few also))

pub pair_counts : (second : Bool) (xs ys : List (Option ℤ)) (a b : Option Key) → (pair_view second xs ys a b).slots ≡ count_of second xs ys
pair_counts false xs ys a b = refl
pair_counts true xs ys a b = refl

list_cause : (xs xs' : List (Option ℤ)) (a c : Option Key) (e : NodeError) → HasCause (list_view xs a) (list_view xs' c) e → ⊥
list_cause xs xs' a c DiskFault risen = grind (arith, risen)
list_cause xs xs' a c (Damaged page) never = never
list_cause xs xs' a c (Missing key) never = never
list_cause xs xs' a c (BadCoefficient key) never = never

pub no_cause : (second now : Bool) (xs ys xs' ys' : List (Option ℤ)) (a b c d : Option Key) (e : NodeError) → now ≡ second
    → HasCause (pair_view second xs ys a b) (pair_view now xs' ys' c d) e → ⊥
no_cause second false xs ys xs' ys' a b c d e same cause =
    let P : Bool → Type 0 = λ s. HasCause (pair_view s xs ys a b) (list_view xs' c) e in
    list_cause xs xs' a c e (subst P (sym same) cause)
no_cause second true xs ys xs' ys' a b c d e same cause =
    let P : Bool → Type 0 = λ s. HasCause (pair_view s xs ys a b) (list_view ys' d) e in
    list_cause ys ys' b d e (subst P (sym same) cause)
