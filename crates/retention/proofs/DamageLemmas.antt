-- Which page a sweep calls damaged.
use Rattle.std.proofs.Common.{◌≡◌, ◌∙◌, ℕ, ◌<◌, List, length, subst, sym, inl, inr, arith}
use Rattle.std.specs.Prelude.{IfErr, Result, Ok, Err, ⊤}
use Rattle.block_disk.specs.View.{Image, View}
use Rattle.gate_pages.specs.declared.pages.Pages.{Ghosts}
use Rattle.om3_coeff.specs.View.{NodesView}
use Rattle.om3_coeff.specs.declared.errors.NodeError.TheVariants as node
use Rattle.page_space.specs.declared.superblock.Superblock.{Superblock}
use Rattle.retention.specs.Damage.{Asks, Blames, IsBadAt, IsBadForLook, IsBadForSweep}
use Rattle.retention.specs.Stepping.{clear_error}
use Rattle.retention.specs.Sweeping.{IsAskCause}
use Rattle.retention.specs.Sweeps.{Names}
use Rattle.retention.specs.declared.rule.Rule.{Rule}
use Rattle.retention.specs.declared.rule.Rule.TheVariants.{Before, Last, Free}
use Rattle.retention.specs.declared.sweep_error.SweepError.{SweepError}
use Rattle.retention.specs.declared.sweep_error.SweepError.TheVariants.{UnknownSeries, DiskFault, Damaged, NoMemory}
use Rattle.series_store.proofs.AskLemmas.{there}
use Rattle.series_store.specs.Asking.{IsNamedAt}
use Rattle.series_store.specs.Results.{IsEditCause, IsUnchangedFor}
use Rattle.series_store.specs.Shown as shown
use Rattle.series_store.specs.declared.store.Store.{Store}
use Rattle.series_store.specs.declared.errors.StoreError.{StoreError}
use Rattle.series_store.specs.declared.errors.StoreError.TheVariants as store
use Rattle.stored_book.specs.Damage.{IsBadForEdit}
use Rattle.stored_book.specs.Records.{entry, tree_of}
use Rattle.page_space.specs.Layout.{Keeps as KeepsPage}
use Rattle.tree_walk.specs.Paths.{IsDamaged}
use Rattle.tree_walk.specs.declared.tree.Tree.{Tree}

-- what is so of a bad page is so of it otherwise
pub blames_by : (e : SweepError) (IsBad IsThat : ℕ → Type 0) → ((page : ℕ) → IsBad page → IsThat page) → Blames IsBad e → Blames IsThat e
blames_by UnknownSeries IsBad IsThat so is = tt
blames_by DiskFault IsBad IsThat so is = tt
blames_by (Damaged page) IsBad IsThat so is = so page is
blames_by NoMemory IsBad IsThat so is = tt

pub result_blames : {T : Type 0} (r : Result T SweepError) (IsBad IsThat : ℕ → Type 0) → ((page : ℕ) → IsBad page → IsThat page)
    → IfErr r (Blames IsBad) → IfErr r (Blames IsThat)
result_blames {T} (Ok v) IsBad IsThat so is = tt
result_blames {T} (Err e) IsBad IsThat so is = blames_by e IsBad IsThat so is

-- asks of nodes
pub ask_blames : (e : SweepError) (nodes nodes' : NodesView) (IsBad : ℕ → Type 0)
    → ((page : ℕ) → nodes.bad (node.Damaged page) → IsBad page)
    → IsAskCause nodes nodes' e → Blames IsBad e
ask_blames UnknownSeries nodes nodes' IsBad so cause = absurd cause
ask_blames DiskFault nodes nodes' IsBad so cause = tt
ask_blames (Damaged page) nodes nodes' IsBad so cause = so page cause
ask_blames NoMemory nodes nodes' IsBad so cause = absurd cause

-- it stays so while the pages stay
pub bad_on : (IsBad : ℕ → Image → ℕ → Type 0) (old new : View) (page : ℕ) → new.image ≡ old.image → new.size ≡ old.size
    → IsBad old.size old.image page → IsBad new.size new.image page
bad_on IsBad old new page image size bad =
    let I : Image → Type 0 = λ i. IsBad old.size i page in
    let C : ℕ → Type 0 = λ n. IsBad n new.image page in
    subst C (sym size) (subst I (sym image) bad)

-- a clear
pub edit_blames : (e : StoreError) (told told' : Type 0) (s : Superblock) (old new : View) → (told' → told) → new.size ≡ old.size
    → (told → KeepsPage old.size s (old.image 0)) → IsUnchangedFor e told old new → IsEditCause e told s old new
    → Blames (λ page. told' → IsBadForEdit new.size new.image page) (clear_error e)
edit_blames (store.Refused refusal) told told' s old new was size keeps same cause = tt
edit_blames store.NotAStore told told' s old new was size keeps same cause = tt
edit_blames store.DiskFault told told' s old new was size keeps same cause = tt
edit_blames (store.Damaged page) told told' s old new was size keeps same cause = λ t.
    bad_on IsBadForEdit old new page (same.image (was t)) size
    (record { numbers = s; keeps = keeps (was t); so = (cause.0, cause.1 (was t)) })
edit_blames store.NoMemory told told' s old new was size keeps same cause = tt

-- ---- by the records

module _ {P : Type 0} {g : Ghosts P} where
  -- a page of which the nodes of a series tell
  pub bad_there : (at : Store P g) (id page : ℕ) → shown.IsSound at → id < length (shown.catalog at) → shown.Selects at id
      → (shown.nodes at).bad (node.Damaged page) → shown.IsTold at → IsBadAt id (shown.view at).size (shown.image at) page
  bad_there at id page sound low selected bad told =
      let one = there (shown.catalog at) id low in
      let E : _ → Type 0 = λ e. IsDamaged (shown.image at) (shown.total at) (tree_of e) page in
      let T : Tree → Type 0 = λ t. IsDamaged (shown.image at) (shown.total at) t page in
      record {
        numbers = shown.numbers at;
        keeps = record { spelled = at.space.spelled sound told; rules = at.space.rules };
        so = (
          bad.0,
          record {
            there = omega (arith, low, at.count);
            damaged = subst E (sym (at.told sound told id one.0 one.1)) (subst T (selected one.0 one.1) (bad.1 told));
          },
        );
      }

  -- the record of a series has the name by which it was found
  pub record_name : (at : Store P g) (name : List ℕ) (id : ℕ) → shown.IsSound at → shown.IsTold at → id < length (shown.catalog at)
      → IsNamedAt (shown.catalog at) name id → (entry (shown.image at) id).name ≡ name
  record_name at name id sound told low named =
      let one = there (shown.catalog at) id low in
      let N : _ → Type 0 = λ e. e.name ≡ name in
      subst N (sym (at.told sound told id one.0 one.1)) (named one.0 one.1)

asks_named : (rule : Rule) (name other : List ℕ) → Names rule name → other ≡ name → Asks rule other
asks_named (Before named time) name other names same = names ∙ sym same
asks_named (Last named count) name other names same = names ∙ sym same
asks_named (Free pages) name other names same = tt

-- the series that a rule names
pub bad_named : (rule : Rule) (name : List ℕ) (id count page : ℕ) (image : Image) → Names rule name → (entry image id).name ≡ name
    → IsBadAt id count image page → IsBadForLook (Asks rule) count image page
bad_named rule name id count page image names same bad = record {
  numbers = bad.numbers;
  keeps = bad.keeps;
  so = (bad.so.0, record { id = id; asked = asks_named rule name (entry image id).name names same; on_way = bad.so.1 });
}

-- any series
pub bad_any : (id count page : ℕ) (image : Image) → IsBadAt id count image page → IsBadForLook (λ name. ⊤) count image page
bad_any id count page image bad = record {
  numbers = bad.numbers;
  keeps = bad.keeps;
  so = (bad.so.0, record { id = id; asked = tt; on_way = bad.so.1 });
}

pub bad_free : (pages count page : ℕ) (image : Image) → IsBadForLook (λ name. ⊤) count image page
    → IsBadForLook (Asks (Free pages)) count image page
bad_free pages count page image bad = record {
  numbers = bad.numbers;
  keeps = bad.keeps;
  so = (bad.so.0, record { id = bad.so.1.id; asked = tt; on_way = bad.so.1.on_way });
}

-- ---- for a sweep

pub look_bad : (rule : Rule) (count page : ℕ) (image : Image) → IsBadForLook (Asks rule) count image page
    → IsBadForSweep rule count image page
look_bad rule count page image bad = record { numbers = bad.numbers; keeps = bad.keeps; so = (bad.so.0, inl bad.so.1) }

pub clear_bad : (rule : Rule) (count page : ℕ) (image : Image) → IsBadForEdit count image page → IsBadForSweep rule count image page
clear_bad rule count page image bad = record { numbers = bad.numbers; keeps = bad.keeps; so = (bad.so.0, inr bad.so.1) }
