-- Which of some lines calls a page damaged.
use Rattle.std.proofs.Common.{◌≡◌, ◌∙◌, ℕ, List, [], ◌∷◌, ◌++◌, length, Option, None, Some, Result, Ok, Err, IfErr, ap, sym, arith}
use Rattle.std.proofs.Common.{append_assoc}
use Rattle.std.specs.Prelude.{OnOk}
use Rattle.block_disk.specs.View.{Image}
use Rattle.page_space.specs.declared.superblock.Superblock.{Superblock}
use Rattle.request_lines.specs.Requests.{read_line}
use Rattle.request_lines.specs.declared.requests.Request.{Request}
use Rattle.request_lines.specs.declared.requests.Request.TheVariants.{Edit as EditRequest, Open, View as ViewRequest, Zoom, Pan, Close}
use Rattle.series_book.specs.declared.edits.Edit.{Edit}
use Rattle.zoom_session.specs.declared.session.Session.{Session}
use Rattle.chart_service.specs.Blaming.{Blames, BlamesBy, BlamesEnd, BlamesRead, FindsDamaged, GivesLast, IsDamagedOf}
use Rattle.chart_service.specs.EditGroups.{SpellEdits}
use Rattle.chart_service.specs.Making.{Makes}
use Rattle.chart_service.specs.declared.failure.AnswerEnd.{AnswerEnd}
use Rattle.chart_service.specs.declared.failure.AnswerEnd.TheVariants.{Serve, Reply}
use Rattle.chart_service.specs.declared.failure.ServeEnd.TheVariants.{ReadFault, SendFault, DiskFault, Damaged, InputTooLong, NoMemory}
use Rattle.chart_service.specs.Spelled.{serve_end}
use Rattle.chart_service.specs.declared.failure.ServeEnd.{ServeEnd}
use Rattle.std.specs.declared.alloc.AllocError.{AllocError}
use Rattle.block_disk.specs.Streams.{sent_after}
use Rattle.chart_service.proofs.Blaming.{last_none, last_then}
use Rattle.chart_service.proofs.Served.{made_spelled, spelling_makes, spells}
use Rattle.served_lines.specs.Blaming.{BlamesTold, ServeBlames}

-- ---- of more series

damaged_more : (One Other : ℕ → Type 0) (image : Image) (s : Superblock) (page : ℕ) → ((id : ℕ) → One id → Other id)
    → IsDamagedOf One image s page
    → IsDamagedOf Other image s page
damaged_more One Other image s page more is = record { id = is.id; there = is.there; shown = more is.id is.shown; damaged = is.damaged }

found_more : (request : Request) (one other : ℕ → ℕ → Type 0) (image : Image) (s : Superblock) (page : ℕ)
    → ((n id : ℕ) → one n id → other n id)
    → FindsDamaged request one image s page → FindsDamaged request other image s page
found_more (EditRequest edit) one other image s page more is = is
found_more (Open number cache) one other image s page more is = absurd is
found_more (ViewRequest number name w h t0 t1 word text) one other image s page more is = is
found_more (Zoom number t0 t1) one other image s page more is = damaged_more (one number) (other number) image s page (more number) is
found_more (Pan number by) one other image s page more is = damaged_more (one number) (other number) image s page (more number) is
found_more (Close number) one other image s page more is = absurd is

read_more : (read : Result Request ℕ) (one other : ℕ → ℕ → Type 0) (told : Type 0) (count : ℕ) (image : Image) (page : ℕ)
    → ((n id : ℕ) → one n id → other n id) → BlamesRead read one told count image page → BlamesRead read other told count image page
read_more (Err at) one other told count image page more is = absurd is
read_more (Ok request) one other told count image page more is = record {
  reads = is.reads;
  within = is.within;
  found = λ t.
      let f = is.found t in
      record { numbers = f.numbers; keeps = f.keeps; so = (f.so.0, found_more request one other image f.numbers page more f.so.1) };
}

pub more_blamed : (line : Option (List ℕ)) (one other : ℕ → ℕ → Type 0) (told : Type 0) (count : ℕ) (image : Image) (page : ℕ)
    → ((n id : ℕ) → one n id → other n id) → Blames line one told count image page → Blames line other told count image page
more_blamed None one other told count image page more is = absurd is
more_blamed (Some text) one other told count image page more is = read_more (read_line text) one other told count image page more is

-- ---- by lines

module _ {S F : Type 0} (makes : Makes S F) where
  -- no edits are given nothing
  pub none_last : (lines : List (Option (List ℕ))) (edits : List Edit) → length edits ≡ 0 → SpellEdits lines edits → (v : S)
      (own : List Session) (before : Option (List ℕ)) → GivesLast makes lines v v own own before before
  none_last [] [] none spells v own before = last_none makes v own before
  none_last [] (edit ∷ edits) none spells v own before = absurd spells
  none_last (line ∷ lines) [] none spells v own before = absurd spells
  none_last (line ∷ lines) (edit ∷ edits) none spells v own before = absurd (omega (arith, none))

  -- by what is answered
  pub last_ok : {T : Type 0} (lines : List (Option (List ℕ))) (v w : S) (own sessions : List Session) (before now : Option (List ℕ))
      (told : Type 0) (count : ℕ) (image : Image) (r : Result T (AnswerEnd F))
      → BlamesBy makes lines v w own sessions before now told count image r → OnOk r (GivesLast makes lines v w own sessions before now)
  last_ok lines v w own sessions before now told count image (Ok done) is = is
  last_ok lines v w own sessions before now told count image (Err end) is = tt

  module _ (v w : S) (own : List Session) (before now : Option (List ℕ)) (told : Type 0) (count : ℕ) (image : Image) where
    -- lines behind them aren't read
    pub blames_more : (lines more : List (Option (List ℕ))) (end : AnswerEnd F)
        → BlamesEnd makes lines v w own before now told count image end
        → BlamesEnd makes (lines ++ more) v w own before now told count image end
    blames_more lines more (Serve ReadFault) is = tt
    blames_more lines more (Serve SendFault) is = tt
    blames_more lines more (Serve DiskFault) is = tt
    blames_more lines more (Serve (Damaged page)) is = record {
      front = is.front;
      line = is.line;
      behind = is.behind ++ more;
      split = ap (λ (l : List (Option (List ℕ))). l ++ more) is.split ∙ append_assoc is.front (is.line ∷ is.behind) more;
      sessions = is.sessions;
      gives = is.gives;
      blames = is.blames;
    }
    blames_more lines more (Serve InputTooLong) is = tt
    blames_more lines more (Serve NoMemory) is = tt
    blames_more lines more (Reply e) is = tt

    -- others before them were given frames
    pub blames_behind : (u : S) (mid_own : List Session) (mid : Option (List ℕ)) (lines more : List (Option (List ℕ))) (end : AnswerEnd F)
        → GivesLast makes lines v u own mid_own before mid → BlamesEnd makes more u w mid_own mid now told count image end
        → BlamesEnd makes (lines ++ more) v w own before now told count image end
    blames_behind u mid_own mid lines more (Serve ReadFault) gives is = tt
    blames_behind u mid_own mid lines more (Serve SendFault) gives is = tt
    blames_behind u mid_own mid lines more (Serve DiskFault) gives is = tt
    blames_behind u mid_own mid lines more (Serve (Damaged page)) gives is = record {
      front = lines ++ is.front;
      line = is.line;
      behind = is.behind;
      split = ap (λ (l : List (Option (List ℕ))). lines ++ l) is.split ∙ sym (append_assoc lines is.front (is.line ∷ is.behind));
      sessions = is.sessions;
      gives = last_then makes lines is.front v u w own mid_own is.sessions before mid now gives is.gives;
      blames = is.blames;
    }
    blames_behind u mid_own mid lines more (Serve InputTooLong) gives is = tt
    blames_behind u mid_own mid lines more (Serve NoMemory) gives is = tt
    blames_behind u mid_own mid lines more (Reply e) gives is = tt

-- ---- the spellings of frames

spelled_end : (v w : Unit {0}) (own : List Session) (input before now : Option (List ℕ)) (told : Type 0) (count : ℕ) (image : Image)
    (end : ServeEnd) → BlamesTold spelling_makes v w own input before now told count image (Serve end)
    → ServeBlames own input before now told count image end
spelled_end v w own input before now told count image ReadFault is = tt
spelled_end v w own input before now told count image SendFault is = tt
spelled_end v w own input before now told count image DiskFault is = tt
spelled_end v w own None before now told count image (Damaged page) is = tt
spelled_end v w own (Some bytes) before now told count image (Damaged page) is = record {
  front = is.front;
  line = is.line;
  behind = is.behind;
  lines_are = is.lines_are;
  frames = is.frames;
  fits = is.fits;
  answers = is.answers;
  named = is.named;
  sent = is.sent ∙ ap (λ t. sent_after t before) (made_spelled spelling_makes spells v w [] is.frames is.text is.made);
  blames = is.blames;
}
spelled_end v w own input before now told count image InputTooLong is = tt
spelled_end v w own input before now told count image NoMemory is = tt

pub serve_blames : (r : Result (Unit {0}) (AnswerEnd AllocError)) (v w : Unit {0}) (own : List Session) (input before now : Option (List ℕ))
    (told : Type 0) (count : ℕ) (image : Image) → IfErr r (BlamesTold spelling_makes v w own input before now told count image)
    → IfErr (serve_end r) (ServeBlames own input before now told count image)
serve_blames (Ok done) v w own input before now told count image is = tt
serve_blames (Err (Serve end)) v w own input before now told count image is = spelled_end v w own input before now told count image end is
serve_blames (Err (Reply e)) v w own input before now told count image is = tt
