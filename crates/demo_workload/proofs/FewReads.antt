-- The requests of a workload read few blocks.
use Rattle.std.proofs.Common.{ℕ, ℤ, zero, suc, pos, ◌≡◌, ◌≢◌, ◌+◌, ◌*◌, ◌/◌, ◌%◌, ◌≤◌, ◌==◌, Bool, true, false, if◌then◌else◌, List, []}
use Rattle.std.proofs.Common.{◌∷◌, ◌++◌, length, Option, None, Some, refl, sym, ap, subst, ◌∙◌, arith}
use Rattle.std.specs.Prelude.{⊤}
use Rattle.std.proofs.lemmas.Bool.{eqb-true, eqb-false}
use Rattle.om3_coeff.proofs.KeyLemmas.{height_few}
use Rattle.request_lines.specs.declared.requests.Request.{Request}
use Rattle.request_lines.specs.declared.requests.Request.TheVariants.{Edit, Open, View, Zoom, Pan, Close}
use Rattle.series_book.specs.declared.one_series.Series.{Series}
use Rattle.zoom_session.specs.declared.session.Session.{Session}
use Rattle.chart_service.specs.Stepping.{ReadsFew, ReadsFor}
use Rattle.demo_workload.specs.declared.draws.Walk.{Walk}
use Rattle.demo_workload.specs.Draws.{walked}
use Rattle.demo_workload.specs.Reading.{edit_reads, view_reads, most_of, most_reads}
use Rattle.demo_workload.specs.Workload.{sets, views, slots_after, set_in, view_in, round, after_round, rounds, workload}

-- a request that a workload has: an edit, an opening, or a view on 640 columns without a filter
abbrev pub IsOfDemo : Request → Type 0
IsOfDemo (Edit edit) = ⊤
IsOfDemo (Open number cache) = ⊤
IsOfDemo (View number name w h t0 t1 word None) = w ≡ 640
IsOfDemo (View number name w h t0 t1 word (Some text)) = ⊥
IsOfDemo (Zoom number t0 t1) = ⊥
IsOfDemo (Pan number by) = ⊥
IsOfDemo (Close number) = ⊥

abbrev pub AreOfDemo : List Request → Type 0
AreOfDemo [] = ⊤
AreOfDemo (request ∷ later) = IsOfDemo request × AreOfDemo later

-- ---- one request

view_few : (w : ℕ) (series : Option Series) (old new : ℕ) → w ≡ 640 → ReadsFor w series old new → new ≤ old + view_reads
view_few w None old new wide reads = omega (arith, reads)
view_few w (Some series) old new wide reads =
    let W : ℕ → Type 0 = λ v. ReadsFor v (Some series) old new in
    let few : ReadsFor 640 (Some series) old new = subst W wide reads in
    omega (arith, few, height_few (length series.slots))

pub request_few : (request : Request) (book : List Series) (sessions : List Session) (old new : ℕ) → IsOfDemo request
    → ReadsFew request book sessions old new
    → new ≤ old + most_of request
request_few (Edit edit) book sessions old new is reads = reads
request_few (Open number cache) book sessions old new is reads = omega (arith, reads)
request_few (View number name w h t0 t1 word None) book sessions old new is reads = view_few w _ old new is reads
request_few (View number name w h t0 t1 word (Some text)) book sessions old new is reads = absurd is
request_few (Zoom number t0 t1) book sessions old new is reads = absurd is
request_few (Pan number by) book sessions old new is reads = absurd is
request_few (Close number) book sessions old new is reads = absurd is

-- ---- the requests of a workload

of_both : (first later : List Request) → AreOfDemo first → AreOfDemo later → AreOfDemo (first ++ later)
of_both [] later are more = more
of_both (request ∷ first) later are more = (are.0, of_both first later are.1 more)

of_set : (b : Bool) (slots : ℕ) (walk : Walk) → AreOfDemo (if b then sets slots walk ∷ [] else [])
of_set true slots walk = (tt, tt)
of_set false slots walk = tt

of_view : (b : Bool) (slots : ℕ) → AreOfDemo (if b then views slots ∷ [] else [])
of_view true slots = (omega arith, tt)
of_view false slots = tt

of_round : (i : ℕ) (walk : Walk) → AreOfDemo (round i walk)
of_round i walk = (
  tt,
  of_both (set_in i (walked 256 walk)) (view_in i) (of_set (i % 4 == 3) (slots_after i) (walked 256 walk))
      (of_view (i % 8 == 7) (slots_after i)),
)

of_rounds : (n i : ℕ) (walk : Walk) → AreOfDemo (rounds n i walk)
unfolding rounds
of_rounds zero i walk = tt
of_rounds (suc n) i walk = of_both (round i walk) (rounds n (i + 1) (after_round i walk)) (of_round i walk)
    (of_rounds n (i + 1) (after_round i walk))

pub of_workload : (seed count : ℕ) → AreOfDemo (workload seed count)
of_workload seed count = (tt, (tt, of_rounds count 0 (record { state = seed; value = pos 0 })))

-- ---- how many blocks they read

reads_both : (first later : List Request) → most_reads (first ++ later) ≡ most_reads first + most_reads later
reads_both [] later = omega arith
reads_both (request ∷ first) later = omega (arith, reads_both first later)

set_reads : (b : Bool) (i : ℕ) (walk : Walk) → (i % 4 == 3) ≡ b
    → most_reads (if b then sets (slots_after i) walk ∷ [] else []) + edit_reads * (i / 4) ≡ edit_reads * ((i + 1) / 4)
set_reads true i walk is = let at : i % 4 ≡ 3 = eqb-true (i % 4) 3 is in omega (arith, at)
set_reads false i walk is = let apart : i % 4 ≢ 3 = eqb-false (i % 4) 3 is in omega (arith, apart)

one_view : (b : Bool) (i : ℕ) → (i % 8 == 7) ≡ b → most_reads (if b then views (slots_after i) ∷ []
    else []) + view_reads * (i / 8) ≡ view_reads * ((i + 1) / 8)
one_view true i is = let at : i % 8 ≡ 7 = eqb-true (i % 8) 7 is in omega (arith, at)
one_view false i is = let apart : i % 8 ≢ 7 = eqb-false (i % 8) 7 is in omega (arith, apart)

round_reads : (i : ℕ) (walk : Walk) → most_reads (round i walk) + edit_reads * (i / 4) + view_reads * (i /
    8) ≡ edit_reads + edit_reads * ((i + 1) / 4) + view_reads * ((i + 1) / 8)
round_reads i walk =
    let set : most_reads (set_in i (walked 256 walk)) + edit_reads * (i / 4) ≡ edit_reads * ((i + 1) / 4) = set_reads (i % 4 == 3) i
    (walked 256 walk) refl in
    let view : most_reads (view_in i) + view_reads * (i / 8) ≡ view_reads * ((i + 1) / 8) = one_view (i % 8 == 7) i refl in
    let both : most_reads (set_in i (walked 256 walk) ++ view_in i) ≡ most_reads (set_in i (walked 256 walk)) + most_reads
    (view_in i) = reads_both (set_in i (walked 256 walk)) (view_in i) in
    let all : most_reads (round i walk) ≡ edit_reads + most_reads (set_in i (walked 256 walk) ++ view_in i) = refl in
    omega (arith, set, view, both, all)

rounds_read : (n i : ℕ) (walk : Walk) → most_reads (rounds n i walk) + edit_reads * (i / 4) + view_reads * (i /
    8) ≡ edit_reads * n + edit_reads * ((i + n) / 4) + view_reads * ((i + n) / 8)
unfolding rounds
rounds_read zero i walk = let same : i + 0 ≡ i = omega arith in rw same (omega arith)
rounds_read (suc n) i walk =
    let here = round_reads i walk in
    let later = rounds_read n (i + 1) (after_round i walk) in
    let both : most_reads (round i walk ++ rounds n (i + 1) (after_round i walk)) ≡ most_reads (round i walk) + most_reads
    (rounds n (i + 1) (after_round i walk)) =
    reads_both (round i walk) (rounds n (i + 1) (after_round i walk)) in
    let next : i + suc n ≡ i + 1 + n = omega arith in
    rw next (omega (arith, here, later, both))

pub workload_reads : (seed count : ℕ) → most_reads (workload seed count) ≡ edit_reads * (1 + count + count / 4) + view_reads * (count / 8)
workload_reads seed count =
    let all = rounds_read count 0 (record { state = seed; value = pos 0 }) in
    let first : most_reads (workload seed count) ≡ edit_reads + (0 + most_reads
    (rounds count 0 (record { state = seed; value = pos 0 }))) = refl in
    let none : 0 + count ≡ count = omega arith in
    omega (arith, first, rw none at all)

-- ---- some first requests, and one more: what they read and those that are left may read
pub reads_on : (old mid new most : ℕ) (workload left : List Request) (request : Request) (book : List Series) (sessions : List Session)
    → workload ≡ request ∷ left → AreOfDemo workload
    → mid + most_reads workload ≤ old + most → ReadsFew request book sessions mid new → new + most_reads left ≤ old + most
reads_on old mid new most workload left request book sessions is are was few =
    let of : AreOfDemo (request ∷ left) = subst AreOfDemo is are in
    let one : new ≤ mid + most_of request = request_few request book sessions mid new of.0 few in
    let all : most_reads workload ≡ most_of request + most_reads left = ap most_reads is in
    omega (arith, one, all, was)

pub reads_most : (old new most left : ℕ) → new + left ≤ old + most → new ≤ old + most
reads_most old new most left was = omega (arith, was)

pub of_left : (workload left : List Request) (request : Request) → workload ≡ request ∷ left → AreOfDemo workload → AreOfDemo left
of_left workload left request is are = (subst AreOfDemo is are).1
