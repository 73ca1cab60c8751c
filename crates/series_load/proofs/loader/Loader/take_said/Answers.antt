use Rattle.std.proofs.Common.{◌≡◌, ◌++◌, None, false, refl, subst, sym}
use Rattle.series_load.proofs.SetLemmas.{ok_keeps_as}
use Rattle.series_load.specs.Steps.{SaysSo, closed, points_with}
use Rattle.series_load.specs.declared.said.Said.{Said}
use Rattle.series_load.proofs.LineLemmas.{adds_at, adds_header, gap_took, point_took, took_nothing}
use Rattle.series_load.proofs.loader.Loader.take_said.Goals as goal

pub take_reading-requires : goal.take_reading-requires
take_reading-requires c = record { near = c.requires.near c.in-Point.reading c.in-Point.is }

pub returns-in-Header-clause-does : goal.returns-in-Header-clause-does
returns-in-Header-clause-does c = λ waiting old text keeps some says.
    let at = c.args.self.now in
    let P : Said → Type 0 = λ s. SaysSo at.scale at.first text s in
    took_nothing (adds_at at.scale at.step c.args.at text at.first old at.points false at.points) at.name waiting old at.kept at.run
    (adds_header at.scale at.step c.args.at text at.first old at.points some (subst P c.in-Header.is says)) keeps

pub returns-in-Point-clause-does : goal.returns-in-Point-clause-does
returns-in-Point-clause-does c = λ waiting old text keeps some says.
    let at = c.args.self.now in
    let new = c.take_reading.new.self in
    let P : Said → Type 0 = λ s. SaysSo at.scale at.first text s in
    point_took at.scale at.step c.args.at text at.first new.first at.points new.points c.in-Point.reading.time c.in-Point.reading.value
    at.name waiting old c.take_reading.result new.kept new.run some (subst P c.in-Point.is says)
    c.take_reading.ensures.first c.take_reading.ensures.points (c.take_reading.ensures.does waiting old keeps)

pub returns-in-Gap-clause-does : goal.returns-in-Gap-clause-does
returns-in-Gap-clause-does c = λ waiting old text keeps some says.
    let at = c.args.self.now in
    let new = c.close.new.self in
    let P : Said → Type 0 = λ s. SaysSo at.scale at.first text s in
    gap_took at.scale at.step c.args.at text at.first new.first at.points new.points at.name waiting old c.close.result new.kept new.run
    some (subst P c.in-Gap.is says)
    c.close.ensures.first c.close.ensures.points (ok_keeps_as c.close.result at.name new.name
    (waiting ++ closed old) None new.kept new.run c.close.ensures.name (c.close.ensures.keeps waiting old keeps))

pub returns-in-Header-clause-counts : goal.returns-in-Header-clause-counts
returns-in-Header-clause-counts c =
    let at = c.args.self.now in
    let P : Said → Type 0 = λ s. at.points ≡ points_with at.points s in
    subst P (sym c.in-Header.is) refl

pub returns-in-Point-clause-counts : goal.returns-in-Point-clause-counts
returns-in-Point-clause-counts c =
    let P : Said → Type 0 = λ s. c.take_reading.new.self.points ≡ points_with c.args.self.now.points s in
    subst P (sym c.in-Point.is) c.take_reading.ensures.points

pub returns-in-Gap-clause-counts : goal.returns-in-Gap-clause-counts
returns-in-Gap-clause-counts c =
    let P : Said → Type 0 = λ s. c.close.new.self.points ≡ points_with c.args.self.now.points s in
    subst P (sym c.in-Gap.is) c.close.ensures.points
