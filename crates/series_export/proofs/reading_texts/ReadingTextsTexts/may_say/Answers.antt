use Rattle.std.proofs.Common.{◌-◌, arith, ap, ap₂, sym, ◌∙◌, w64}
use mir.Val.{to_z, of_z}
use Rattle.series_export.specs.Exports.{may_meet}
use Rattle.series_export.proofs.ExportLemmas.{no_line, may_meet_so, time_same}
use Rattle.series_export.proofs.reading_texts.ReadingTextsTexts.may_say.Goals as goal

pub returns : goal.returns
returns c = record {
  may =
      let self = c.args.self.now in
      let first = ap (λ t. to_z w64 (of_z w64 t)) c.time.ensures
      ∙ time_same self.start self.step self.slots c.args.first self.near self.last
      (omega (arith, c.requires.some, c.requires.within)) in
      let last = ap (λ t. to_z w64 (of_z w64 t)) c.time-2.ensures
      ∙ time_same self.start self.step self.slots (c.args.end - 1) self.near self.last
      (omega (arith, c.requires.some, c.requires.within)) in
      c.may_meet.ensures ∙ ap₂ (λ a b. may_meet self.window a b) first last;
  silent = λ none.
      let self = c.args.self.now in
      let first = ap (λ t. to_z w64 (of_z w64 t)) c.time.ensures
      ∙ time_same self.start self.step self.slots c.args.first self.near self.last
      (omega (arith, c.requires.some, c.requires.within)) in
      let last = ap (λ t. to_z w64 (of_z w64 t)) c.time-2.ensures
      ∙ time_same self.start self.step self.slots (c.args.end - 1) self.near self.last
      (omega (arith, c.requires.some, c.requires.within)) in
      no_line self.start self.step self.scale c.args.first c.args.end self.window
      (may_meet_so self.window _ _ _ _ first last (sym c.may_meet.ensures ∙ none));
}
