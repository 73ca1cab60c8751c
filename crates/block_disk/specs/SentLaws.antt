-- Texts that are sent one after the other.
use Rattle.std.proofs.Common.{◌≡◌, ℕ, ◌+◌, List, [], ◌++◌, length, Option, Some, None, IfSome, refl, ap, sym, subst, ◌∙◌, append_assoc}
use Rattle.std.proofs.Common.{arith, length-append}
use Rattle.std.proofs.lemmas.List.{append-nil}
use Rattle.block_disk.specs.Streams.{sent_after}

pub sent_none : (before : Option (List ℕ)) → before ≡ sent_after [] before
sent_none None = refl
sent_none (Some sent) = ap Some (sym (append-nil sent))

pub sent_more : (text more : List ℕ) (before now later : Option (List ℕ)) → now ≡ sent_after text before → later ≡ sent_after more now
    → later ≡ sent_after (text ++ more) before
sent_more text more None now later first second = second ∙ ap (sent_after more) first
sent_more text more (Some sent) now later first second = second ∙ ap (sent_after more) first ∙ ap Some (append_assoc sent text more)

-- so many bytes were sent
pub sent_is : (bytes text : List ℕ) (now : Option (List ℕ)) (from count : ℕ) → from ≡ length bytes → now ≡ sent_after text (Some bytes)
    → IfSome now (λ all. count ≡ length all) → count ≡ from + length text
sent_is bytes text now from count begins is counts =
    let P : Option (List ℕ) → Type 0 = λ o. IfSome o (λ all. count ≡ length all) in
    let all : count ≡ length (bytes ++ text) = subst P is counts in
    omega (arith, all, begins, length-append bytes text)
