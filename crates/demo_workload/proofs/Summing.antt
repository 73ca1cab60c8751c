-- The summary of one more frame, and the limit of a picture's black pixels.
use Rattle.std.proofs.Common.{ℕ, ◌≡◌, ◌+◌, ◌*◌, ◌^◌, ◌≤◌, ◌++◌, [], ◌∷◌, List, Option, All, length, cond, slice_index_or, refl, sym, ap}
use Rattle.std.proofs.Common.{◌∙◌, subst, append_assoc, length-append, ap₂, codes, arith}
use Rattle.std.specs.Fmt.{decimal}
use Rattle.std.specs.List.{range_with_len}
use Rattle.std.proofs.lemmas.List.Sums.{sum_by_push, count_by-le-length, sum_by-le}
use Rattle.std.proofs.lemmas.List.FromFn.{length-range_with_len}
use Rattle.line_raster.specs.Canvas.{Canvas, black_at, black_in_column, black_pixels}
use Rattle.chart_frames.specs.declared.frame.Frame.{Frame}
use Rattle.demo_workload.specs.declared.summaries.Summary.{Summary}
use Rattle.demo_workload.specs.Summaries.{is_done, is_refused, is_view, view_bytes, picture_pixels, summary_of, summary_line}

one_more : (frames : List Frame) (pictures : List (Option Canvas)) (frame : Frame) (picture : Option Canvas) (old : Summary)
    → old ≡ summary_of frames pictures
    → summary_of (frames ++ frame ∷ []) (pictures ++ picture ∷ []) ≡ record {
      requests = old.requests + 1;
      done = old.done + cond (is_done frame) 1 0;
      refused = old.refused + cond (is_refused frame) 1 0;
      views = old.views + cond (is_view frame) 1 0;
      sent = old.sent + view_bytes frame;
      black = old.black + picture_pixels picture;
    }
unfolding summary_of
one_more frames pictures frame picture old is =
    let P : Summary → Type 0 = λ s. summary_of (frames ++ frame ∷ []) (pictures ++ picture ∷ []) ≡ record {
      requests = s.requests + 1;
      done = s.done + cond (is_done frame) 1 0;
      refused = s.refused + cond (is_refused frame) 1 0;
      views = s.views + cond (is_view frame) 1 0;
      sent = s.sent + view_bytes frame;
      black = s.black + picture_pixels picture;
    } in
    subst P (sym is) (simp (length-append, sum_by_push) refl)

same_fields : (r r' d d' f f' v v' s s' b b' : ℕ) → r ≡ r' → d ≡ d' → f ≡ f' → v ≡ v' → s ≡ s' → b ≡ b'
    → ◌≡◌ {A = Summary} (record { requests = r; done = d; refused = f; views = v; sent = s; black = b })
    (record { requests = r'; done = d'; refused = f'; views = v'; sent = s'; black = b' })
same_fields r r' d d' f f' v v' s s' b b' hr hd hf hv hs hb = cc

-- the summary with one more reply, by what it adds to each number
added : (frames : List Frame) (pictures : List (Option Canvas)) (frame : Frame) (picture : Option Canvas) (old : Summary)
    (done refused views sent black : ℕ)
    → old ≡ summary_of frames pictures → done ≡ old.done + cond (is_done frame) 1 0 → refused ≡ old.refused + cond (is_refused frame) 1 0
    → views ≡ old.views + cond (is_view frame) 1 0 → sent ≡ old.sent + view_bytes frame → black ≡ old.black + picture_pixels picture
    → ◌≡◌ {A = Summary} (record { requests = old.requests + 1; done = done; refused = refused; views = views; sent = sent; black = black })
    (summary_of (frames ++ frame ∷ []) (pictures ++ picture ∷ []))
added frames pictures frame picture old done refused views sent black is d f v s b =
    same_fields (old.requests + 1) _ done _ refused _ views _ sent _ black _ refl d f v s b
    ∙ sym (one_more frames pictures frame picture old is)

-- the same of a frame that is known to be this one
pub added_so : (frames : List Frame) (pictures : List (Option Canvas)) (frame : Frame) (picture : Option Canvas) (kind : Frame)
    (old : Summary) (done refused views sent black : ℕ)
    → old ≡ summary_of frames pictures → frame ≡ kind → done ≡ old.done + cond (is_done kind) 1 0
    → refused ≡ old.refused + cond (is_refused kind) 1 0
    → views ≡ old.views + cond (is_view kind) 1 0 → sent ≡ old.sent + view_bytes kind → black ≡ picture_pixels picture
    → ◌≡◌ {A = Summary} (record {
      requests = old.requests + 1;
      done = done;
      refused = refused;
      views = views;
      sent = sent;
      black = old.black + black;
    })
    (summary_of (frames ++ frame ∷ []) (pictures ++ picture ∷ []))
added_so frames pictures frame picture kind old done refused views sent black is same d f v s b =
    let D : Frame → Type 0 = λ k. done ≡ old.done + cond (is_done k) 1 0 in
    let F : Frame → Type 0 = λ k. refused ≡ old.refused + cond (is_refused k) 1 0 in
    let V : Frame → Type 0 = λ k. views ≡ old.views + cond (is_view k) 1 0 in
    let S : Frame → Type 0 = λ k. sent ≡ old.sent + view_bytes k in
    added frames pictures frame picture old done refused views sent (old.black + black) is (subst D (sym same) d) (subst F (sym same) f)
    (subst V (sym same) v) (subst S (sym same) s)
    (ap (λ n. old.black + n) b)

each_column : (c : Canvas) (columns : List ℕ) → c.h ≤ 4096 → All (λ x. black_in_column c x ≤ 4096) columns
each_column c columns high k d lt =
    let x : ℕ = slice_index_or columns k d in
    let some : black_in_column c x ≤ length (range_with_len 0 c.h) = count_by-le-length (black_at c x) (range_with_len 0 c.h) in
    let all : length (range_with_len 0 c.h) ≡ c.h = length-range_with_len 0 c.h in
    omega arith

pub few_black : (c : Canvas) → c.w ≤ 4096 → c.h ≤ 4096 → black_pixels c ≤ 2 ^ 24
few_black c wide high =
    let columns : length (range_with_len 0 c.w) ≡ c.w = length-range_with_len 0 c.w in
    let sum : black_pixels c ≤ length (range_with_len 0 c.w) * 4096 = sum_by-le (black_in_column c) 4096 (range_with_len 0 c.w)
    (each_column c (range_with_len 0 c.w) high) in
    omega arith

halves : (a b c d e f rest : List ℕ) → (a ++ (b ++ (c ++ (d ++ (e ++ f))))) ++ rest ≡ a ++ (b ++ (c ++ (d ++ (e ++ (f ++ rest)))))
halves a b c d e f rest = simp append_assoc

-- a summary's line by its halves
pub line_of_halves : (s : Summary) (front behind line : List ℕ)
    → front ≡ codes "requests " ++ (decimal s.requests ++ (codes " done " ++ (decimal s.done ++ (codes " refused " ++ decimal s.refused))))
    → behind ≡ codes " views " ++ (decimal s.views ++ (codes
    " sent " ++ (decimal s.sent ++ (codes " black " ++ (decimal s.black ++ codes "\n")))))
    → line ≡ front ++ behind → line ≡ summary_line s
unfolding summary_line
line_of_halves s front behind line f b is =
    is
    ∙ ap₂ (λ (x y : List ℕ). x ++ y) f b
    ∙ halves (codes "requests ") (decimal s.requests) (codes " done ") (decimal s.done) (codes " refused ") (decimal s.refused) _
