use Rattle.std.proofs.Common.{◌∙◌, ℕ, List, refl, subst}
use Rattle.series_load.specs.Ends.{Outcome}
use Rattle.series_load.proofs.Counting.{no_memory_on}
use Rattle.series_load.specs.SideLaws.{goes_nowhere}
use Rattle.series_load.proofs.Knowing.{at_bad_of, named_at, no_line, none_so, no_memory_line, not_named, found_so, no_memory_cause}
use Rattle.series_load.proofs.Knowing.{no_memory_known, no_count, no_memory_short, no_memory_sound, no_value, read_of, some_at_first}
use Rattle.series_load.proofs.Knowing.{unstarted}
use Rattle.series_load.specs.Shown.{side_of}
use Rattle.series_store.specs.Shown as shown
use Rattle.series_load.proofs.loading.load.Goals as goal

pub returns-in_default-clause-unknown : goal.returns-in_default-clause-unknown
returns-in_default-clause-unknown g c = λ total book told stands.
    (λ is. none_so c.series.result _ _ c.in_default.is (c.series.ensures.info total book c.requires.sound told stands), λ none. refl)

pub returns-in_default-clause-untouched : goal.returns-in_default-clause-untouched
returns-in_default-clause-untouched g c = λ is. refl

pub returns-in_default-clause-outcome : goal.returns-in_default-clause-outcome
returns-in_default-clause-outcome g c = λ total book series told stands named.
    absurd (not_named c.args.name.now book series (none_so c.series.result _ _ c.in_default.is
    (c.series.ensures.info total book c.requires.sound told stands)) named)

pub returns-in_default-clause-goes : goal.returns-in_default-clause-goes
returns-in_default-clause-goes g c = goes_nowhere (side_of g.P.Streams c.args.store.now)

pub returns-in_default-clause-sound_for : goal.returns-in_default-clause-sound_for
returns-in_default-clause-sound_for g c = c.requires.sound

pub returns-in_err-loader-clause-unknown : goal.returns-in_err-loader-clause-unknown
returns-in_err-loader-clause-unknown g c = λ total book told stands. found_so c.args.name.now book c.in-Some.found c.from_residual.result
    (c.in-Some.ensures.info total book c.requires.sound told stands)
    (no_memory_known c.from_residual.result c.in_err-loader.field-0.0 c.from_residual.ensures.1 c.in_err-loader.ensures.err)

pub returns-in_err-loader-clause-untouched : goal.returns-in_err-loader-clause-untouched
returns-in_err-loader-clause-untouched g c = λ is. absurd
    (no_memory_known c.from_residual.result c.in_err-loader.field-0.0 c.from_residual.ensures.1 c.in_err-loader.ensures.err is)

pub returns-in_err-loader-clause-outcome : goal.returns-in_err-loader-clause-outcome
returns-in_err-loader-clause-outcome g c = λ total book series told stands named.
    unstarted total c.args.name.now book series (g.P.Streams.left (shown.pages c.args.store.now)) c.in_err-loader.field-0.0
    c.from_residual.result (shown.view c.args.store.now) c.from_residual.ensures.1 c.in_err-loader.ensures.err
    (some_at_first total c.args.name.now book series (g.P.Streams.left (shown.pages c.args.store.now))
    (shown.image c.args.store.now) stands)

pub returns-in_err-loader-clause-within : goal.returns-in_err-loader-clause-within
returns-in_err-loader-clause-within g c = no_value c.from_residual.result c.in_err-loader.field-0.0 _ c.from_residual.ensures.1

pub returns-in_err-loader-clause-whole : goal.returns-in_err-loader-clause-whole
returns-in_err-loader-clause-whole g c = no_value c.from_residual.result c.in_err-loader.field-0.0 _ c.from_residual.ensures.1

pub returns-in_err-loader-clause-long : goal.returns-in_err-loader-clause-long
returns-in_err-loader-clause-long g c = λ is. absurd
    (no_memory_short c.from_residual.result c.in_err-loader.field-0.0 c.from_residual.ensures.1 c.in_err-loader.ensures.err is)

pub returns-in_err-loader-clause-goes : goal.returns-in_err-loader-clause-goes
returns-in_err-loader-clause-goes g c = goes_nowhere (side_of g.P.Streams c.args.store.now)

pub returns-in_err-loader-clause-cause : goal.returns-in_err-loader-clause-cause
returns-in_err-loader-clause-cause g c = no_memory_cause
    (shown.IsTold c.args.store.now) c.from_residual.result c.in_err-loader.field-0.0 _ _ _ _ _ c.from_residual.ensures.1
    c.in_err-loader.ensures.err

pub returns-in_err-loader-clause-faults : goal.returns-in_err-loader-clause-faults
returns-in_err-loader-clause-faults g c = no_memory_on c.from_residual.result c.in_err-loader.field-0.0 (shown.view c.args.store.now)
    (shown.view c.args.store.now) c.from_residual.ensures.1 c.in_err-loader.ensures.err refl

pub returns-in_err-loader-clause-sound : goal.returns-in_err-loader-clause-sound
returns-in_err-loader-clause-sound g c = no_value c.from_residual.result c.in_err-loader.field-0.0 _ c.from_residual.ensures.1

pub returns-in_err-loader-clause-sound_for : goal.returns-in_err-loader-clause-sound_for
returns-in_err-loader-clause-sound_for g c = no_memory_sound c.from_residual.result c.in_err-loader.field-0.0
    (shown.view c.args.store.now) c.from_residual.ensures.1 c.in_err-loader.ensures.err c.requires.sound

pub returns-in_err-lines-clause-unknown : goal.returns-in_err-lines-clause-unknown
returns-in_err-lines-clause-unknown g c = λ total book told stands.
    found_so c.args.name.now book c.in-Some.found c.from_residual-in_err-lines.result
    (c.in-Some.ensures.info total book c.requires.sound told stands)
    (no_memory_known c.from_residual-in_err-lines.result c.in_err-lines.field-0.0 c.from_residual-in_err-lines.ensures.1
    c.in_err-lines.ensures.err)

pub returns-in_err-lines-clause-untouched : goal.returns-in_err-lines-clause-untouched
returns-in_err-lines-clause-untouched g c = λ is. absurd
    (no_memory_known c.from_residual-in_err-lines.result c.in_err-lines.field-0.0 c.from_residual-in_err-lines.ensures.1
    c.in_err-lines.ensures.err is)

pub returns-in_err-lines-clause-outcome : goal.returns-in_err-lines-clause-outcome
returns-in_err-lines-clause-outcome g c = λ total book series told stands named.
    unstarted total c.args.name.now book series (g.P.Streams.left (shown.pages c.args.store.now)) c.in_err-lines.field-0.0
    c.from_residual-in_err-lines.result (shown.view c.args.store.now) c.from_residual-in_err-lines.ensures.1 c.in_err-lines.ensures.err
    (some_at_first total c.args.name.now book series (g.P.Streams.left (shown.pages c.args.store.now))
    (shown.image c.args.store.now) stands)

pub returns-in_err-lines-clause-within : goal.returns-in_err-lines-clause-within
returns-in_err-lines-clause-within g c = no_value c.from_residual-in_err-lines.result c.in_err-lines.field-0.0 _
    c.from_residual-in_err-lines.ensures.1

pub returns-in_err-lines-clause-whole : goal.returns-in_err-lines-clause-whole
returns-in_err-lines-clause-whole g c = no_value c.from_residual-in_err-lines.result c.in_err-lines.field-0.0 _
    c.from_residual-in_err-lines.ensures.1

pub returns-in_err-lines-clause-long : goal.returns-in_err-lines-clause-long
returns-in_err-lines-clause-long g c = λ is. absurd
    (no_memory_short c.from_residual-in_err-lines.result c.in_err-lines.field-0.0 c.from_residual-in_err-lines.ensures.1
    c.in_err-lines.ensures.err is)

pub returns-in_err-lines-clause-goes : goal.returns-in_err-lines-clause-goes
returns-in_err-lines-clause-goes g c = goes_nowhere (side_of g.P.Streams c.args.store.now)

pub returns-in_err-lines-clause-cause : goal.returns-in_err-lines-clause-cause
returns-in_err-lines-clause-cause g c = no_memory_cause
    (shown.IsTold c.args.store.now) c.from_residual-in_err-lines.result c.in_err-lines.field-0.0 _ _ _ _ _
    c.from_residual-in_err-lines.ensures.1 c.in_err-lines.ensures.err

pub returns-in_err-lines-clause-faults : goal.returns-in_err-lines-clause-faults
returns-in_err-lines-clause-faults g c = no_memory_on c.from_residual-in_err-lines.result c.in_err-lines.field-0.0
    (shown.view c.args.store.now) (shown.view c.args.store.now) c.from_residual-in_err-lines.ensures.1 c.in_err-lines.ensures.err refl

pub returns-in_err-lines-clause-sound : goal.returns-in_err-lines-clause-sound
returns-in_err-lines-clause-sound g c = no_value c.from_residual-in_err-lines.result c.in_err-lines.field-0.0 _
    c.from_residual-in_err-lines.ensures.1

pub returns-in_err-lines-clause-sound_for : goal.returns-in_err-lines-clause-sound_for
returns-in_err-lines-clause-sound_for g c = no_memory_sound c.from_residual-in_err-lines.result c.in_err-lines.field-0.0
    (shown.view c.args.store.now) c.from_residual-in_err-lines.ensures.1 c.in_err-lines.ensures.err c.requires.sound

pub load_lines-requires-clause-sound : goal.load_lines-requires-clause-sound
load_lines-requires-clause-sound g c = c.requires.sound

pub load_lines-requires-clause-fresh : goal.load_lines-requires-clause-fresh
load_lines-requires-clause-fresh g c = c.in_ok-lines.ensures.lines

pub load_lines-requires-clause-none : goal.load_lines-requires-clause-none
load_lines-requires-clause-none g c = c.in_ok-loader.ensures.none

pub load_lines-requires-clause-sets : goal.load_lines-requires-clause-sets
load_lines-requires-clause-sets g c = c.in_ok-loader.ensures.sets

pub load_lines-requires-clause-ats : goal.load_lines-requires-clause-ats
load_lines-requires-clause-ats g c = c.in_ok-loader.ensures.ats

pub load_lines-requires-clause-first : goal.load_lines-requires-clause-first
load_lines-requires-clause-first g c = c.in_ok-loader.ensures.first

pub load_lines-requires-clause-points : goal.load_lines-requires-clause-points
load_lines-requires-clause-points g c = c.in_ok-loader.ensures.points

pub returns-clause-unknown : goal.returns-clause-unknown
returns-clause-unknown g c = λ total book told stands. found_so c.args.name.now book c.in-Some.found c.load_lines.result
    (c.in-Some.ensures.info total book c.requires.sound told stands) c.load_lines.ensures.known

pub returns-clause-untouched : goal.returns-clause-untouched
returns-clause-untouched g c = λ is. absurd (c.load_lines.ensures.known is)

pub returns-clause-outcome : goal.returns-clause-outcome
returns-clause-outcome g c = λ total book series told stands named.
    let there = named_at c.args.name.now book series c.in-Some.found
    (c.in-Some.ensures.info total book c.requires.sound told stands) named in
    let info = c.info-info.ensures.info total book series c.requires.sound told stands there in
    let P : List ℕ → Type 0 = λ n. Outcome total n book series (g.P.Streams.left (shown.pages c.args.store.now))
    (g.P.Streams.left (shown.pages c.load_lines.new.store)) c.load_lines.result (shown.view c.args.store.now)
    (shown.view c.load_lines.new.store) in
    subst P c.in_ok-loader.ensures.name (c.load_lines.ensures.outcome total book series told stands (c.in_ok-loader.ensures.step
    ∙ info.step) (c.in_ok-loader.ensures.scale ∙ info.scale))

pub returns-clause-within : goal.returns-clause-within
returns-clause-within g c = c.load_lines.ensures.within

pub returns-clause-whole : goal.returns-clause-whole
returns-clause-whole g c = c.load_lines.ensures.whole

pub returns-clause-long : goal.returns-clause-long
returns-clause-long g c = c.load_lines.ensures.long

pub returns-clause-goes : goal.returns-clause-goes
returns-clause-goes g c = c.load_lines.ensures.goes

pub returns-clause-cause : goal.returns-clause-cause
returns-clause-cause g c = c.load_lines.ensures.cause

pub returns-clause-faults : goal.returns-clause-faults
returns-clause-faults g c = c.load_lines.ensures.faults

pub returns-clause-sound : goal.returns-clause-sound
returns-clause-sound g c = c.load_lines.ensures.sound

pub returns-clause-sound_for : goal.returns-clause-sound_for
returns-clause-sound_for g c = c.load_lines.ensures.sound_for

pub returns-in_default-clause-lacks : goal.returns-in_default-clause-lacks
returns-in_default-clause-lacks g c = λ is. c.in_default.ensures.named

pub returns-in_err-loader-clause-lacks : goal.returns-in_err-loader-clause-lacks
returns-in_err-loader-clause-lacks g c = λ is. absurd
    (no_memory_known c.from_residual.result c.in_err-loader.field-0.0 c.from_residual.ensures.1 c.in_err-loader.ensures.err is)

pub returns-in_err-lines-clause-lacks : goal.returns-in_err-lines-clause-lacks
returns-in_err-lines-clause-lacks g c = λ is. absurd
    (no_memory_known c.from_residual-in_err-lines.result c.in_err-lines.field-0.0 c.from_residual-in_err-lines.ensures.1
    c.in_err-lines.ensures.err is)

pub returns-clause-lacks : goal.returns-clause-lacks
returns-clause-lacks g c = λ is. absurd (c.load_lines.ensures.known is)

pub returns-in_err-loader-clause-line : goal.returns-in_err-loader-clause-line
returns-in_err-loader-clause-line g c = no_memory_line (shown.catalog c.args.store.now) c.args.name.now
    (g.P.Streams.left (shown.pages c.args.store.now)) c.from_residual.result c.in_err-loader.field-0.0 c.from_residual.ensures.1
    c.in_err-loader.ensures.err

pub returns-in_err-lines-clause-line : goal.returns-in_err-lines-clause-line
returns-in_err-lines-clause-line g c = no_memory_line (shown.catalog c.args.store.now) c.args.name.now
    (g.P.Streams.left (shown.pages c.args.store.now)) c.from_residual-in_err-lines.result c.in_err-lines.field-0.0
    c.from_residual-in_err-lines.ensures.1 c.in_err-lines.ensures.err

pub returns-in_default-clause-line : goal.returns-in_default-clause-line
returns-in_default-clause-line g c = no_line (shown.catalog c.args.store.now) c.args.name.now
    (g.P.Streams.left (shown.pages c.args.store.now))

pub returns-clause-line : goal.returns-clause-line
returns-clause-line g c =
    at_bad_of (shown.catalog c.args.store.now) c.args.name.now
    (g.P.Streams.left (shown.pages c.args.store.now)) c.in-Some.found.id c.info-info.result c.in_ok-loader.loader.scale
    c.load_lines.result
    c.in-Some.ensures.there c.in-Some.ensures.named c.info-info.ensures.stored c.in_ok-loader.ensures.scale c.load_lines.ensures.line

pub info-info-requires : goal.info-info-requires
info-info-requires g c = c.in-Some.ensures.there

pub returns-in_err-loader-clause-read : goal.returns-in_err-loader-clause-read
returns-in_err-loader-clause-read g c = no_count c.from_residual.result c.in_err-loader.field-0.0 _ c.from_residual.ensures.1

pub returns-in_err-lines-clause-read : goal.returns-in_err-lines-clause-read
returns-in_err-lines-clause-read g c = no_count c.from_residual-in_err-lines.result c.in_err-lines.field-0.0 _
    c.from_residual-in_err-lines.ensures.1

pub returns-clause-read : goal.returns-clause-read
returns-clause-read g c =
    read_of (shown.catalog c.args.store.now) c.args.name.now
    (g.P.Streams.left (shown.pages c.args.store.now)) c.in-Some.found.id c.info-info.result c.in_ok-loader.loader.scale
    c.load_lines.result
    c.in-Some.ensures.there c.in-Some.ensures.named c.info-info.ensures.stored c.in_ok-loader.ensures.scale c.load_lines.ensures.read
