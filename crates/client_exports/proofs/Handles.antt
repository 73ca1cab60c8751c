-- The machine values of a handle. Assumes `Logic`.
use Rattle.std.proofs.Common.{◌≡◌, ℕ, List, [], ◌∷◌, ◌++◌, refl, subst}
use seplogic.Ra.Ura.{Ura}
use mir.Val.{Val, vstruct, vcons, vnil, of_list, has_ty, WT}
use types.Logic.{Logic, sem}
use types.Kit.{given, learn, use1, Item, Goal, Seq, Step, step, ‵, ◌$◌, drop, fsplit, fjoin, fpick, fpack, feq_i, feq_l}
use denote.RattleType.{RattleType, Valss}
use denote.Builtin.{RawPtr}
use denote.RawPtr.{Ptr, ptr_val, block_ptr, null_ptr, lies_at, in_a_block, Testable}
use denote.Memory.{lone}
use mir.Raw.{raw as bare}
use base.Fml.{Fml}
use base.Fraction.{full_share}
use base.Logic.{ent, guard, guard_i, never, via, fst∗, snd∗}
use contract.Monad.{fact_use}
use Rattle.std.specs.contracts.impls.GlobalAllocator.TheImpl.{ghosts}
use Rattle.std.proofs.GlobalToken.{dealloc_token-Testable}
use Rattle.std_alloc.specs.Box.Ownership.{box_owns}
use Rattle.client_exports.specs.contracts.stream.Stream.{the_row as S}
use denote.Steps.{nothing}
use denote.Struct.Struct.{within}
use denote.Struct.Owning.{shape}
use Rattle.std.specs.Prelude.{Option, None, Some}
use mathlib.Core.Bool.{true, ◌&&◌}
use lib.Dec.{T}
use mir.Syntax.{ty_ptr}
use Rattle.core.proofs.atomic.Steps.{Ptr-Good}
use Rattle.std_alloc.proofs.ResultValues.{and_tt}
use Rattle.client_exports.specs.State.{State}
use Rattle.client_exports.specs.contracts.handle.Handle as handle
use Rattle.client_exports.specs.Owned.{owned, heap}

abbrev pub H : RattleType
H = handle.the_row

abbrev pub single : Val → Val
single v = vstruct (vcons v vnil)

module _ {M : Type 1} {𝓤 : Ura M} {𝓛 : Logic 𝓤} {K : Type 0} {Γ : List (Item 𝓤)} {G : Goal 𝓤 𝓛.H} where
  pub handle_out : K → (d : H.Denot) (vs : List Val)
      → (vs ≡ single (ptr_val d.at) ∷ [] → Seq K 𝓛 (‵ (owned d.at d.value) ∷ Γ) G)
      → Seq K 𝓛 (‵ (H.own_val d vs) ∷ Γ) G
  handle_out t d vs k =
      fsplit t $ fpick t (λ vss. fsplit t $ feq_l t (λ ev. fsplit t $ feq_l t (λ ep. drop t $
      k (subst (λ (ps : List Val). vs ≡ vstruct (of_list (ps ++ [])) ∷ []) ep ev))))

  pub handle_in : K → (p : Ptr) (x : Option State)
      → Step K 𝓛 (‵ (H.own_val (record { at = p; value = x }) (single (ptr_val p) ∷ [])) ∷ Γ) G (‵ (owned p x) ∷ Γ) G
  handle_in t p x = step (λ s. let v : Val = single (ptr_val p) in
      nothing t $ feq_i t (List Val) (ptr_val p ∷ []) (ptr_val p ∷ []) refl $ fjoin t $ feq_i t (List Val) (v ∷ []) (v ∷ []) refl $
      fjoin t $
      fpack t (Valss (RawPtr ∷ [])) (within (shape handle.the_type) (p, tt) (v ∷ [])) (ptr_val p ∷ [], tt) $ fjoin t $ s)

pub single_good : (p : Ptr) → T (has_ty ty_ptr (ptr_val p) && true) × WT (single (ptr_val p))
single_good p = (and_tt (has_ty ty_ptr (ptr_val p)) (Ptr-Good p).0, ((Ptr-Good p).1, tt))

-- the right to free the block at a pointer, and what a box there owns
abbrev frees : Ptr → Fml
frees = ghosts.dealloc_token heap (bare (lone S.mir))

abbrev boxed : Ptr → State → Fml
boxed p x = box_owns (ghosts.dealloc_token heap) S p x

module _ {M : Type 1} {𝓤 : Ura M} (𝓛 : Logic 𝓤) where
  tested : (p : Ptr) (x : State) → ent 𝓤 (sem 𝓛 (boxed p x)) (guard 𝓤 (Testable p) (sem 𝓛 (boxed p x)))
  tested p x =
      let may_free = via 𝓤 _ (snd∗ 𝓤 (sem 𝓛 (lies_at S full_share p x)) (sem 𝓛 (frees p))) in
      fact_use 𝓤 (Testable p) (may_free (dealloc_token-Testable 𝓛 heap (bare (lone S.mir)) p)) (guard_i 𝓤 (Testable p) (sem 𝓛 (boxed p x)))

module _ {M : Type 1} {𝓤 : Ura M} {𝓛 : Logic 𝓤} {K : Type 0} {Γ : List (Item 𝓤)} {G : Goal 𝓤 𝓛.H} where
  pub either : K → (p : Ptr) (v : Option State) → (p ≡ null_ptr → v ≡ None → Seq K 𝓛 Γ G)
      → ((b o : ℕ) (x : State) → p ≡ block_ptr b o → v ≡ Some x → Testable (block_ptr b o) → Seq K 𝓛 (‵ (boxed (block_ptr b o) x) ∷ Γ) G)
      → Seq K 𝓛 (‵ (owned p v) ∷ Γ) G
  either t p None none one = fpick t (λ e. drop t $ none e refl)
  either t p (Some x) none one =
      in_a_block t p (λ q. boxed q x) (fst∗ 𝓤 (never 𝓤) (sem 𝓛 (frees null_ptr))) (λ b o e.
      use1 𝓛 (given (Testable (block_ptr b o)) (‵ (boxed (block_ptr b o) x))) (tested 𝓛 (block_ptr b o) x) $
      learn t (λ ok. one b o x e refl ok))
