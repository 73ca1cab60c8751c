use Rattle.std.proofs.Common.{◌≡◌, ◌<◌, ℕ, false, true, List, length, get_or, Option, sym, subst, ◌∙◌}
use Rattle.std.specs.Prelude.{Result, Ok, Err, OnErr, OnOk, slice_set}
use Rattle.std.specs.Result.{is_err}
use Rattle.std.proofs.lemmas.Result.{on_ok_weaker}
use Rattle.om3_coeff.specs.declared.key.Key.{Key}
use Rattle.om3_coeff.specs.declared.coef.Coef.{Coef}
use Rattle.zoom_session.specs.Places.{IsPlaceOf}
use Rattle.zoom_session.specs.Sessions.{after_view, viewed, AreSessions}
use Rattle.zoom_session.specs.declared.session.Session.{Session}
use Rattle.zoom_session.specs.declared.view_spec.ViewSpec.{ViewSpec}
use Rattle.zoom_session.proofs.Valid.{removed_valid}
use Rattle.zoom_session.proofs.sessions.Sessions.apply.Goals as goal

viewed_so : (number place : ℕ) (spec : ViewSpec) (needed : Option (List (Key × Coef))) (items ss : List Session) (s kept : Session)
    → IsPlaceOf number ss place → items ≡ ss → s ≡ get_or items place s
    → kept ≡ after_view spec needed s → slice_set items place kept ≡ viewed number spec needed ss
viewed_so number place spec needed items ss s kept at same is kept_is = let e = at.changed spec needed s in cc

no_error : {T E : Type 0} (P : Type 0) (r : Result T E) → is_err r ≡ false → OnErr r P
no_error P (Ok v) none = tt
no_error P (Err e) none = cc

no_value : {T E : Type 0} (P : Type 0) (r : Result T E) → is_err r ≡ true → OnOk r P
no_value P (Ok v) some = cc
no_value P (Err e) some = tt

pub returns-then-is_err-clause-viewed : goal.returns-then-is_err-clause-viewed
returns-then-is_err-clause-viewed c = no_value _ c.keep_view-kept.result (sym c.is_err.ensures.value ∙ c.if-is_err.true)

pub returns-else-is_err : goal.returns-else-is_err
returns-else-is_err c = record {
  viewed = on_ok_weaker c.keep_view-kept.result (viewed_so c.args.number c.in-Some.place c.args.spec _ c.self.inside.sessions.items
      c.args.self.now c.index_mut-session.result.now c.keep_view-kept.new.self c.in-Some.ensures.place c.self.view_is
      c.index_mut-session.ensures.value) c.keep_view-kept.ensures.kept;
  closed = no_error _ c.keep_view-kept.result (sym c.is_err.ensures.value ∙ c.if-is_err.false);
}

pub invariant_of-self : goal.invariant_of-self
invariant_of-self c =
    let inside : c.in-Some.place < length c.self.inside.sessions.items = subst (λ (ss : List Session). c.in-Some.place < length ss)
    (sym c.self.view_is) c.in-Some.ensures.place.inside in
    subst AreSessions (sym c.remove.ensures.items) (removed_valid c.self.inside.sessions.items c.in-Some.place c.keep_view-kept.new.self
    inside c.self.invariant)
