-- A copy is the page, and a page that was read is a copy.
use Rattle.std.proofs.Common.{◌≡◌, ◌≢◌, ◌∙◌, ℕ, List, Option, Some, None, cond, refl, sym, ap}
use Rattle.std.specs.Prelude.{is_some, IsTrue}
use Rattle.std.proofs.lemmas.Bool.{eq-eqb, ne_eqb}
use Rattle.std.proofs.lemmas.Result.{err_from_is_err_and}
use Rattle.block_disk.specs.View.{Image}
use Rattle.page_space.specs.Copies.{Copies, place, copy_of, copies_in, with_copy}
use Rattle.page_space.proofs.Caching.{copies_on, copies_same, copies_with}
use Rattle.page_space.proofs.space.Space.get.Goals as goal

not_held : (copy : Option (List ℕ)) → None ≡ copy → IsTrue (is_some copy) → ⊥
not_held None is held = cc (held)
not_held (Some bytes) is held = cc (is)

here : (p : ℕ) (bytes : List ℕ) (copies : Copies) → with_copy p bytes copies p ≡ Some bytes
here p bytes copies = ap (λ b. cond b (copy_of p bytes p) (copies p)) (eq-eqb (place p) (place p) refl)
    ∙ ap (λ b. cond b (Some bytes) None) (eq-eqb p p refl)

elsewhere : (p q : ℕ) (bytes : List ℕ) (copies : Copies) → place q ≢ place p → with_copy p bytes copies q ≡ copies q
elsewhere p q bytes copies off = ap (λ b. cond b (copy_of p bytes q) (copies q)) (ne_eqb (place q) (place p) off)

pub returns-in-Some-clause-page : goal.returns-in-Some-clause-page
returns-in-Some-clause-page g c told =
    c.copy_from_slice.ensures.after ∙ c.args.self.now.copied c.requires.sound told c.args.p c.in-Some.page.now (sym c.in-Some.ensures.copy)

pub invariant_of-self-2-clause-copied : goal.invariant_of-self-2-clause-copied
invariant_of-self-2-clause-copied g c = λ fit told.
    let old = c.args.self.now in
    let was = c.get-2.ensures.reads.was_told told in
    let before = (g.P.Pages.view old.pages).image in
    let after = (g.P.Pages.view c.get-2.new.self).image in
    let same = c.get-2.ensures.reads.image was in
    let copies = copies_in old.cache in
    let page = c.in_ok-get.ensures.page was ∙ sym (ap (λ (i : Image). i c.args.p) same) in
    copies_same after (with_copy c.args.p c.get-2.new.out copies) (copies_in c.keep.new.self) c.keep.ensures
    (copies_with after c.args.p c.get-2.new.out copies page (copies_on before after copies same (old.copied c.requires.sound was)))

pub returns-clause-hit : goal.returns-clause-hit
returns-clause-hit g c held = absurd (not_held (copies_in c.args.self.now.cache c.args.p) c.in_default.ensures.copy held)

pub returns-clause-kept : goal.returns-clause-kept
returns-clause-kept g c = c.keep.ensures c.args.p ∙ here c.args.p c.get-2.new.out (copies_in c.args.self.now.cache)

pub returns-clause-others : goal.returns-clause-others
returns-clause-others g c q off = c.keep.ensures q ∙ elsewhere c.args.p q c.get-2.new.out (copies_in c.args.self.now.cache) off

pub returns-in_err-get : goal.returns-in_err-get
returns-in_err-get g c =
    let err = err_from_is_err_and c.from_residual.result c.from_residual.ensures.1 in
    rw err.1 (record {
      page = λ _. tt;
      reads = c.get-2.ensures.reads;
      goes_on = c.get-2.ensures.goes_on;
      superblock = refl;
      cause = c.in_err-get.ensures.cause;
      quiet = tt;
      hit = λ held. absurd (not_held (copies_in c.args.self.now.cache c.args.p) c.in_default.ensures.copy held);
      kept = tt;
      others = λ q _. refl;
      none = λ q. refl;
    })
