-- Bytes are cut into answers in one way.
use Rattle.std.proofs.Common.{◌≡◌, ℕ, List, [], ◌∷◌, ◌++◌, length, refl, ap, sym, ◌∙◌, arith, append_assoc}
use Rattle.std.proofs.lemmas.List.Elements.{All-head, All-tail}
use Rattle.std.specs.Prelude.{flat_map}
use Rattle.chart_frames.specs.Format.{number_in}
use Rattle.chart_frames.proofs.Numbers.{number_stays}
use Rattle.served_fronts.specs.Answers.{TellsSize}
use Rattle.served_fronts.specs.Laws.{BytesAreCutInOneWay}

-- two fronts that are equally long
parted : (a b x y : List ℕ) → a ++ x ≡ b ++ y → length a ≡ length b → (a ≡ b) × (x ≡ y)
parted [] [] x y is size = (refl, is)
parted [] (b ∷ bs) x y is size = absurd (omega (arith, size))
parted (a ∷ as') [] x y is size = absurd (omega (arith, size))
parted (a ∷ as') (b ∷ bs) x y is size =
    let here : a ≡ b = cc in
    let rest : as' ++ x ≡ bs ++ y = cc in
    let later = parted as' bs x y rest (omega (arith, size)) in
    (ap (λ k. k ∷ as') here ∙ ap (λ l. b ∷ l) later.0, later.1)

abbrev all : List (List ℕ) → List ℕ
all texts = flat_map (λ bytes. bytes) texts

pub cut : BytesAreCutInOneWay
cut [] second behind more tells tells_too same few = (second, refl)
cut (a ∷ as') [] behind more tells tells_too same few = absurd (omega (arith, few))
cut (a ∷ as') (b ∷ bs) behind more tells tells_too same few =
    let whole : a ++ (all as' ++ behind) ≡ b ++ (all bs ++ more) =
    sym (append_assoc a (all as') behind) ∙ same ∙ append_assoc b (all bs) more in
    let first = All-head TellsSize a as' tells in
    let second = All-head TellsSize b bs tells_too in
    let low = number_stays 4 a (all as' ++ behind) (omega (arith, first)) in
    let low' = number_stays 4 b (all bs ++ more) (omega (arith, second)) in
    let number : number_in 4 (a ++ (all as' ++ behind)) ≡ number_in 4 (b ++ (all bs ++ more)) = ap (number_in 4) whole in
    let is = parted a b (all as' ++ behind) (all bs ++ more) whole (omega (arith, first, second, low, low', number)) in
    let later = cut as' bs behind more (All-tail TellsSize a as' tells) (All-tail TellsSize b bs tells_too) is.1 (omega (arith, few)) in
    (later.0, ap (λ l. l ∷ bs) (sym is.0) ∙ ap (λ l. a ∷ l) later.1)
