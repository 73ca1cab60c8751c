-- The cover of a view that is under way.
use Rattle.std.proofs.Common.{◌≡◌, ℕ, List, subst}
use Rattle.line_raster.specs.Canvas.{Canvas}
use Rattle.chart_frames.specs.declared.frame.ViewFrame.{ViewFrame}
use Rattle.chart_client.specs.declared.holding.Holding.{Holding}
use Rattle.progressive_view.specs.Covers.{Taking, DrawsCover}

-- it is that of the view, of what is held, and of so many coefficients
pub cover_at : (p : Taking) (view : ViewFrame) (held : List Holding) (n : ℕ) (cover : Canvas) → p.view ≡ view → p.holdings ≡ held
    → p.taken ≡ n
    → DrawsCover p cover → DrawsCover (record { view = view; holdings = held; taken = n }) cover
cover_at p view held n cover view_is held_is taken_is draws =
    let P : ViewFrame → Type 0 = λ v. DrawsCover (record { view = v; holdings = held; taken = n }) cover in
    let Q : List Holding → Type 0 = λ hs. DrawsCover (record { view = p.view; holdings = hs; taken = n }) cover in
    let R : ℕ → Type 0 = λ m. DrawsCover (record { view = p.view; holdings = p.holdings; taken = m }) cover in
    subst P view_is (subst Q held_is (subst R taken_is draws))
