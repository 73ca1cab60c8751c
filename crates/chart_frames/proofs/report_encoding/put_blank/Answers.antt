use Rattle.std.proofs.Common.{◌≡◌, ℕ, List, ◌++◌, cond, Result, Ok, Err, ap, ◌∙◌}
use Rattle.std.specs.Prelude.{OnOk}
use Rattle.std.specs.Result.{is_ok}
use Rattle.std.proofs.lemmas.List.{take-replicate}
use Rattle.chart_frames.proofs.report_encoding.put_blank.Goals as goal

blank_put : {A E : Type 0} (r : Result A E) (new old s t : List ℕ) → new ≡ cond (is_ok r) (old ++ s) old → s ≡ t → OnOk r (new ≡ old ++ t)
blank_put (Ok a) new old s t e f = e ∙ ap (λ (p : List ℕ). old ++ p) f
blank_put (Err x) new old s t e f = tt

pub returns : goal.returns
returns c = blank_put c.extend_from_slice.result c.extend_from_slice.new.self.items c.args.out.now.items _ _
    c.extend_from_slice.ensures.items (take-replicate c.args.count 31 0 c.requires)
