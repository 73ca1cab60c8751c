use Rattle.std.proofs.Common.{◌≡◌, ◌∙◌, sym, true, false}
use Rattle.std.specs.Prelude.{Option, Some, None, Result, Ok, Err, IfOk, OnErr, is_err}
use Rattle.om3_coeff.specs.declared.span.Span.{Span}
use Rattle.om3_coeff.specs.declared.coef.Coef.{Coef}
use Rattle.om3_coeff.specs.Coefs.{parts}
use Rattle.chart_client.specs.HeldNodes.{seen_of}
use Rattle.chart_client.proofs.Usable.{usable_known, usable_split}
use Rattle.chart_client.proofs.held_nodes.HeldNodesNodes.coef.Goals as goal

splits_not : {X E : Type 0} (r : Result X E) (P : Type 0) → OnErr r P → is_err r ≡ true → P
splits_not (Ok x) P none err = let e : false ≡ true = err in cc
splits_not (Err e) P none err = none

-- the halves of a span that is split
record Split (s : Span) (c : Coef) : Type 0 where
  halves : Option Span × Option Span
  is : parts s c ≡ Some halves

splits : {E : Type 0} (r : Result (Option Span × Option Span) E) (s : Span) (c : Coef) → IfOk r (λ halves. parts s c ≡ Some halves)
    → is_err r ≡ false → Split s c
splits (Ok halves) s c is good = record { halves = halves; is = is }
splits (Err e) s c is good = let bad : true ≡ false = good in cc

pub returns-then-is_err-clause-cause : goal.returns-then-is_err-clause-cause
returns-then-is_err-clause-cause c = record {
  span = c.args.span;
  known_so = sym (usable_known (seen_of c.args.self.now) c.args.self.now.slots c.args.key) ∙ c.requires.seen tt;
  coef = c.in-Some.coef;
  told = sym c.told-told.ensures ∙ c.in-Some.is;
  splits_not = splits_not c.split.result (parts c.args.span c.in-Some.coef ≡ None) c.split.ensures.none (sym c.is_err.ensures.value
      ∙ c.if-is_err.true);
}

pub returns-clause-told : goal.returns-clause-told
returns-clause-told c = λ tells.
    let s : Split c.args.span c.in-Some.coef = splits c.split.result c.args.span c.in-Some.coef c.split.ensures.parts
    (sym c.is_err.ensures.value ∙ c.if-is_err.false) in
    usable_split (seen_of c.args.self.now) c.args.self.now.slots c.args.key c.args.span c.in-Some.coef s.halves
    (sym (usable_known (seen_of c.args.self.now) c.args.self.now.slots c.args.key) ∙ c.requires.seen tt)
    (sym c.told-told.ensures ∙ c.in-Some.is) s.is
