-- Which page edits that are done together call damaged, and edits that change nothing.
use Rattle.std.proofs.Common.{◌≡◌, ℕ, zero, suc, List, [], ◌∷◌, take, drop, sym, subst, arith}
use Rattle.block_disk.specs.View.{Image, View}
use Rattle.page_space.specs.declared.superblock.Superblock.{Superblock}
use Rattle.series_book.specs.EditLists.{after_edits, book_behind}
use Rattle.series_book.specs.Edits.{apply}
use Rattle.series_book.specs.declared.edits.Edit.{Edit}
use Rattle.series_book.specs.declared.one_series.Series.{Series}
use Rattle.series_catalog.specs.declared.stored_series.StoredSeries.{StoredSeries}
use Rattle.series_store.specs.Groups.{ChangeNone, GroupMoves, IsGroupCause}
use Rattle.series_store.specs.Results.{IsUnchangedFor as StoreUnchanged}
use Rattle.series_store.specs.declared.errors.StoreError.{StoreError}
use Rattle.series_store.specs.declared.errors.StoreError.TheVariants as store
use Rattle.stored_book.specs.Damage.{IsBadForEdit}
use Rattle.chart_service.specs.EditDamage.{NamesBadForEdit}
use Rattle.chart_service.specs.EditGroups.{group_end}
use Rattle.chart_service.specs.declared.failure.ServiceError.{ServiceError}
use Rattle.chart_service.proofs.StepLemmas.{AreOwn}

pub group_blames : (error : StoreError) (end : ServiceError) (told told' : Type 0) (catalog : List StoredSeries) (s : Superblock)
    (old new : View) → end ≡ group_end error → AreOwn told old s catalog → GroupMoves told told' old new → StoreUnchanged error told old new
    → IsGroupCause error told s old new → NamesBadForEdit told' new.size new.image end
group_blames (store.Refused refusal) end told told' catalog s old new is own moves kept cause = absurd cause
group_blames store.NotAStore end told told' catalog s old new is own moves kept cause = absurd cause
group_blames store.DiskFault end told told' catalog s old new is own moves kept cause = let P : ServiceError
    → Type 0 = NamesBadForEdit told' new.size new.image in subst P (sym is) tt
group_blames (store.Damaged page) end told told' catalog s old new is own moves kept cause =
    let P : ServiceError → Type 0 = NamesBadForEdit told' new.size new.image in
    let I : Image → Type 0 = λ i. IsBadForEdit old.size i page in
    let C : ℕ → Type 0 = λ n. IsBadForEdit n new.image page in
    subst P (sym is) (
      omega (arith, cause.0, own.within, moves.size),
      λ t.
          let was = moves.was_told t in
          subst C (sym moves.size) (subst I (sym (kept.image was))
          (record { numbers = s; keeps = own.keeps was; so = (cause.0, cause.1 was) })),
    )
group_blames store.NoMemory end told told' catalog s old new is own moves kept cause = let P : ServiceError
    → Type 0 = NamesBadForEdit told' new.size new.image in subst P (sym is) tt

-- ---- edits of which none changes the book

pub none_first : (total : ℕ) (book : List Series) (n : ℕ) (edits : List Edit) → ChangeNone total book edits
    → ChangeNone total book (take n edits)
none_first total book zero [] none = tt
none_first total book zero (e ∷ es) none = tt
none_first total book (suc n) [] none = tt
none_first total book (suc n) (e ∷ es) none = (none.0, none_first total (book_behind book (apply book total e)) n es none.1)

pub none_later : (total : ℕ) (book : List Series) (n : ℕ) (edits : List Edit) → ChangeNone total book edits
    → ChangeNone total (after_edits total book (take n edits)) (drop n edits)
none_later total book zero [] none = none
none_later total book zero (e ∷ es) none = none
none_later total book (suc n) [] none = none
none_later total book (suc n) (e ∷ es) none = none_later total (book_behind book (apply book total e)) n es none.1
