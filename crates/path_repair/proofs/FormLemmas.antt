-- What a page has beside its nodes.
use Rattle.std.proofs.Common.{◌≡◌, ◌≢◌, ℕ, ℤ, suc, ◌+◌, ◌-◌, ◌*◌, ◌/◌, ◌%◌, ◌<◌, ◌≤◌, ◌⊎◌, ◌==◌, true, false, List, slice_index, Option}
use Rattle.std.proofs.Common.{sym, ap, subst, arith, inl, inr, ◌∙◌}
use Rattle.std.specs.Prelude.{Result, Ok, Err, OnOk, OnErr, IfErr, IsOk}
use Rattle.std.specs.Result.{is_err}
use Rattle.std.specs.Int.{bit_at}
use Rattle.std.proofs.lemmas.Bool.{cases_lt}
use Rattle.std.proofs.lemmas.Bool.Decides.{eqb_tells}
use Rattle.block_disk.specs.Blocks.{IsBlock}
use Rattle.om3_coeff.specs.declared.span.Span.{Span}
use Rattle.om3_coeff.specs.Spans.{span}
use Rattle.node_page.specs.Fields.{level_at, child_at, flag_at}
use Rattle.node_page.specs.Layout.{KeepsLayout, IsKind, IsFirstBad}
use Rattle.node_page.specs.declared.errors.BadPage.{BadPage}
use Rattle.node_page.specs.declared.errors.BadPage.TheVariants.{Kind, Level, Reserved, Flags, Differences, Children}
use Rattle.node_page.proofs.Blank.{IsBlank, flag_blank, child_blank}
use Rattle.tree_walk.specs.Trees.{top_of_page}
use Rattle.page_spans.specs.Lists.{AreLeavesOf}
use Rattle.path_repair.specs.Forms.{IsForm, AreTops}

pub kept_form : (level total : ℕ) (page bytes : List ℕ) → page ≡ bytes → IsBlock bytes → KeepsLayout bytes → level_at page ≡ level
    → ((c : ℕ) → c < 128 → child_at page c < total) → IsForm level total bytes
kept_form level total page bytes same whole keeps level_is below =
    let P : List ℕ → Type 0 = λ b. (c : ℕ) → c < 128 → child_at b c < total in
    record {
      whole = whole;
      kind = keeps.kind;
      level_is = ap (λ b. level_at b) (sym same) ∙ level_is;
      reserved = keeps.reserved;
      spare = λ b low high. elim (cases_lt b 255) [
        | inl even ↦ ap (λ n. flag_at bytes n) (the_even b low even) ∙ keeps.flags.spare_even
        | inr odd ↦ ap (λ n. flag_at bytes n) (the_odd b odd high) ∙ keeps.flags.spare_odd
      ];
      below = subst P same below;
    }
  where
    the_even : (b : ℕ) → 254 ≤ b → b < 255 → b ≡ 254
    the_even b low high = omega (arith, low, high)

    the_odd : (b : ℕ) → 255 ≤ b → b < 256 → b ≡ 255
    the_odd b low high = omega (arith, low, high)

flag_same : (old new : List ℕ) (b : ℕ) → b < 256 → ((k : ℕ) → k < 2072 → slice_index new k ≡ slice_index old k)
    → flag_at new b ≡ flag_at old b
unfolding flag_at
flag_same old new b small same = ap (λ byte. bit_at byte (b % 8) == 1) (same (8 + b / 8) (omega (arith, small)))

pub set_form : (level total child page : ℕ) (old new : List ℕ) → IsBlock new → child_at new child ≡ page
    → ((c : ℕ) → c ≢ child → child_at new c ≡ child_at old c)
    → ((k : ℕ) → (k < 2072 + 4 * child) ⊎ (2076 + 4 * child ≤ k) → slice_index new k ≡ slice_index old k) → page < total → child < 128
    → IsForm level total old → IsForm level total new
unfolding level_at
set_form level total child page old new whole here others rest below within form = record {
  whole = whole;
  kind = rest 0 (inl (omega arith)) ∙ form.kind;
  level_is = rest 1 (inl (omega arith)) ∙ form.level_is;
  reserved = λ k spare. elim spare [
    | inl front ↦ rest k (inl (omega (arith, front.1))) ∙ form.reserved k (inl front)
    | inr back ↦ rest k (inr (omega (arith, back.0, within))) ∙ form.reserved k (inr back)
  ];
  spare = λ b low high. flag_same old new b high (λ k less. rest k (inl (omega (arith, less)))) ∙ form.spare b low high;
  below = λ c small. elim (eqb_tells c child) [
    | inl is ↦ omega (arith, ap (λ n. child_at new n) is.1, here, below)
    | inr is ↦ omega (arith, others c is.1, form.below c small)
  ];
}

-- the leaves of a page, as its children's tops
pub tops_of : (list : List (Option ℤ)) (level below index : ℕ) (spans : ℕ → Option Span) → level ≡ suc below
    → AreLeavesOf list level index spans → AreTops list below index (λ child. spans (127 + child))
tops_of list level below index spans is leaves child within =
    let depth : level - 1 ≡ below = omega (arith, is) in
    leaves child within ∙ ap (λ l. span list (top_of_page l (128 * index + child))) depth

pub leaves_of : (list : List (Option ℤ)) (level below index : ℕ) (spans : ℕ → Option Span) → level ≡ suc below
    → AreTops list below index (λ child. spans (127 + child)) → AreLeavesOf list level index spans
leaves_of list level below index spans is tops child within =
    let depth : below ≡ level - 1 = omega (arith, is) in
    tops child within ∙ ap (λ l. span list (top_of_page l (128 * index + child))) depth

-- a page of zeros becomes a page of a page level
level_blank : (zeros level : List ℕ) → ((k : ℕ) → slice_index zeros k ≡ 0) → ((k : ℕ) → 2 ≤ k → slice_index level k ≡ slice_index zeros k)
    → IsBlank level
level_blank zeros level none rest k low high = rest k (omega (arith, low)) ∙ none k

pub start_child : (zeros level : List ℕ) → ((k : ℕ) → slice_index zeros k ≡ 0)
    → ((k : ℕ) → 2 ≤ k → slice_index level k ≡ slice_index zeros k) → (c : ℕ) → c < 128 → child_at level c ≡ 0
start_child zeros level none rest c within = child_blank level (level_blank zeros level none rest) c within

pub start_form : (level total page : ℕ) (zeros bytes new : List ℕ) → ((k : ℕ) → slice_index zeros k ≡ 0) → IsBlock bytes → IsKind bytes
    → level_at bytes ≡ level → ((k : ℕ) → 2 ≤ k → slice_index bytes k ≡ slice_index zeros k)
    → IsBlock new → child_at new 0 ≡ page → ((c : ℕ) → c ≢ 0 → child_at new c ≡ child_at bytes c)
    → ((k : ℕ) → (k < 2072 + 4 * 0) ⊎ (2076 + 4 * 0 ≤ k) → slice_index new k ≡ slice_index bytes k) → page < total
    → IsForm level total new
start_form level total page zeros bytes new none whole kind level_is rest whole' here others rest' below =
    set_form level total 0 page bytes new whole' here others rest' below (omega arith) (record {
      whole = whole;
      kind = kind;
      level_is = level_is;
      reserved = λ k spare. elim spare [
        | inl front ↦ rest k front.0 ∙ none k
        | inr back ↦ rest k (omega (arith, back.0)) ∙ none k
      ];
      spare = λ b low high. flag_blank bytes (level_blank zeros bytes none rest) b high;
      below = λ c within. omega (arith, start_child zeros bytes none rest c within, below);
    })

pub never_err : {T E : Type 0} (r : Result T E) → OnErr r ⊥ → true ≡ is_err r → ⊥
never_err (Ok value) never is = grind (arith, is)
never_err (Err error) never is = never

pub ok_no_err : {T E : Type 0} (r : Result T E) (P : E → Type 0) → IsOk r → IfErr r P
ok_no_err (Ok value) P is = tt
ok_no_err (Err error) P is = grind (arith, is)

pub not_err : {T E : Type 0} (r : Result T E) (P : Type 0) → OnOk r P → false ≡ is_err r → P
not_err (Ok value) P holds is = holds
not_err (Err error) P holds is = absurd (grind (arith, is))

-- a page whose field breaks its rule
pub unkept : (field : BadPage) (page : List ℕ) → IsFirstBad field page → KeepsLayout page → ⊥
unkept Kind page bad keeps = bad keeps.kind
unkept Level page bad keeps = bad.1 keeps.level
unkept Reserved page bad keeps = bad.2 keeps.reserved
unkept Flags page bad keeps = bad.3 keeps.flags
unkept Differences page bad keeps = bad.4 keeps.differences
unkept Children page bad keeps = bad.5 keeps.children
