-- How the number of a key tells where its pair stands, and how it still does where pairs come, move and go.
use Rattle.std.proofs.Common.{◌≡◌, ◌≢◌, ℕ, zero, suc, ◌+◌, ◌<◌, ◌≤◌, inl, inr, true, false, cond, List, [], ◌∷◌, ◌++◌, length, take, set}
use Rattle.std.proofs.Common.{get_or, reverse, Option, Some, None, Result, Ok, Err, OnOk, OnErr, is_some, if◌then◌else◌, min, refl, sym, ap}
use Rattle.std.proofs.Common.{◌∙◌, subst, arith, length-append}
use Rattle.std.specs.Option.{option_map}
use Rattle.std.specs.Map.{lookup, remove_entry}
use Rattle.std.proofs.lemmas.Option.{none-some}
use Rattle.std.proofs.lemmas.Bool.{cases_lt}
use Rattle.std.proofs.lemmas.List.{length-map, length-set, length-take, get_or_default, get_or-take, get_or-set_same, get_or-set_other}
use Rattle.std.proofs.lemmas.List.{get_or_append_left}
use Rattle.std.proofs.Math.Seq.{get_or-append_seam}
use Rattle.std.proofs.lemmas.Map.Made.{lookup-map_values}
use Rattle.om3_coeff.specs.declared.coef.Coef.{Coef}
use Rattle.coefficient_cache.specs.declared.series_key.SeriesKey.{SeriesKey}
use Rattle.coefficient_cache.specs.Pairs.{key_eq, has}
use Rattle.coefficient_cache.specs.Puts.{shown, located, AreFound, IsTold, AreKept, AreStored, IsFirstHeld, AreAlike}
use Rattle.coefficient_cache.proofs.Keys.{key_exact}
use Rattle.coefficient_cache.proofs.Kept.{with_coef, some_pair, key_in, num_in, same_or_other, key_differs, key_same, key_apart}
use Rattle.coefficient_cache.proofs.Kept.{held-within, none-shown, not-held, found-held, kept-again, pairs-again, kept-anew, kept-dropped}
use Rattle.coefficient_cache.proofs.Kept.{kept-reordered}
use Rattle.coefficient_cache.proofs.Fronts.{kept-alike, alike-held, alike-turned, alike-length}

-- the place of a number
abbrev at_place : List ℕ → ℕ → ℕ
at_place places n = get_or places n 0

pub located-lookup : (places : List ℕ) (numbers : List (SeriesKey × ℕ)) (k : SeriesKey)
    → lookup (key_eq k) (located places numbers) ≡ option_map (at_place places) (lookup (key_eq k) numbers)
located-lookup places numbers k = lookup-map_values (at_place places) (key_eq k) numbers

pub located-length : (places : List ℕ) (numbers : List (SeriesKey × ℕ)) → length (located places numbers) ≡ length numbers
located-length places numbers = length-map numbers (λ e. (e.0, at_place places e.1))

abbrev some_num : ℕ → Option ℕ
some_num n = Some n

module _ (ps : List (Option (SeriesKey × Coef))) (owners places : List ℕ) (numbers : List (SeriesKey × ℕ))
    (f : AreFound ps owners places numbers) where
  pub told : (key : SeriesKey) → IsTold ps places numbers key
  told key = record {
    within = λ n h. f.known key n h;
    held = λ n h. f.found key (get_or places n 0) (located-lookup places numbers key ∙ ap (option_map (at_place places)) h);
  }

  pub none-located : (key : SeriesKey) → lookup (key_eq key) numbers ≡ None → lookup (key_eq key) (located places numbers) ≡ None
  none-located key h = located-lookup places numbers key ∙ ap (option_map (at_place places)) h

  one-place : (i j : ℕ) (k : SeriesKey) (v w : Coef) → get_or ps i None ≡ Some (k, v) → get_or ps j None ≡ Some (k, w) → i ≡ j
  one-place i j k v w a b = num_in i j (sym (f.placed i k v a) ∙ f.placed j k w b)

  module _ (i : ℕ) (k : SeriesKey) (v : Coef) (at : get_or ps i None ≡ Some (k, v)) where
    abbrev pub number : ℕ
    number = get_or owners i 0

    pub number-known : number < length places
    number-known = f.known k number (f.owned i k v at)

    -- the place that its number tells
    number-place : get_or places number 0 ≡ i
    number-place = num_in (get_or places number 0) i
        (sym (located-lookup places numbers k ∙ ap (option_map (at_place places)) (f.owned i k v at)) ∙ f.placed i k v at)

    -- no other key has its number
    number-apart : (q : SeriesKey) (m : ℕ) → lookup (key_eq q) numbers ≡ Some m → key_eq k q ≡ false → m ≢ number
    number-apart q m h other = λ same.
        let there = f.found q (get_or places m 0) (located-lookup places numbers q ∙ ap (option_map (at_place places)) h) in
        let place : get_or places m 0 ≡ i = ap (λ n. get_or places n 0) same ∙ number-place in
        let is : q ≡ k = key_in q k there.0 v (sym there.1 ∙ ap (λ n. get_or ps n None) place ∙ at) in
        let bad : true ≡ false = sym (key_same k q is) ∙ other in cc

    -- where its place changes, the other keys keep theirs
    pub moved-told : (j : ℕ) (q : SeriesKey) → lookup (key_eq q) (located (set places number j) numbers) ≡ cond (key_eq k q) (Some j)
        (lookup (key_eq q) (located places numbers))
    moved-told j q = located-lookup (set places number j) numbers q
        ∙ (elim (key_eq k q) as (λ b. key_eq k q ≡ b
        → option_map (at_place (set places number j)) (lookup (key_eq q) numbers) ≡ cond b (Some j)
        (lookup (key_eq q) (located places numbers))) [
          | true ↦ λ t.
              ap (λ (x : SeriesKey). option_map (at_place (set places number j)) (lookup (key_eq x) numbers)) (sym (key_exact k q t))
              ∙ ap (option_map (at_place (set places number j))) (f.owned i k v at)
              ∙ ap some_num (get_or-set_same places number j 0 number-known)
          | false ↦ λ t.
              (elim (lookup (key_eq q) numbers) as (λ o. lookup (key_eq q) numbers ≡ o
              → option_map (at_place (set places number j)) o ≡ option_map (at_place places) o) [
                | None ↦ λ h. refl
                | Some m ↦ λ h. ap some_num (get_or-set_other places number m j 0 (number-apart q m h t))
              ]) refl
              ∙ sym (located-lookup places numbers q)
        ]) refl

-- a pair that is put again is found behind the others
module _ (ps : List (Option (SeriesKey × Coef))) (owners places : List ℕ) (numbers : List (SeriesKey × ℕ)) (start capacity : ℕ)
    (stored : AreStored ps owners places numbers start capacity)
    (i : ℕ) (key : SeriesKey) (v coef : Coef) (at : get_or ps i None ≡ Some (key, v)) where
  abbrev f : AreFound ps owners places numbers
  f = stored.found

  abbrev n : ℕ
  n = get_or owners i 0

  abbrev pub again_puts : List (Option (SeriesKey × Coef))
  again_puts = set (ps ++ Some (with_coef key coef) ∷ []) i None

  abbrev pub again_owners : List ℕ
  again_owners = owners ++ n ∷ []

  abbrev pub again_places : List ℕ
  again_places = set places n (length ps)

  there : ◌≡◌ {A = Option ℕ} (Some i) (lookup (key_eq key) (located places numbers))
  there = sym (f.placed i key v at)

  counted : length (located again_places numbers) ≡ length (located places numbers) + 0
  counted = omega (arith, located-length again_places numbers, located-length places numbers)

  again-kept : AreKept again_puts (located again_places numbers) start capacity
  again-kept =
      kept-again ps (ps ++ Some (with_coef key coef) ∷ []) (located places numbers) (located again_places numbers) start capacity
      (length ps) key coef (Some i)
      stored.kept there refl refl (moved-told ps owners places numbers f i key v at (length ps)) counted i refl

  pub again-pairs : reverse (shown again_puts) ≡ with_coef key coef ∷ remove_entry (key_eq key) (reverse (shown ps))
  again-pairs =
      pairs-again ps (ps ++ Some (with_coef key coef) ∷ []) (located places numbers) (located again_places numbers) start capacity
      (length ps) key coef (Some i)
      stored.kept there refl refl (moved-told ps owners places numbers f i key v at (length ps)) counted i refl

  within : i < length ps
  within = held-within ps i (key, v) at

  long : length (ps ++ Some (with_coef key coef) ∷ []) ≡ length ps + 1
  long = length-append ps (Some (with_coef key coef) ∷ [])

  pub again-stored : AreStored again_puts again_owners again_places numbers start capacity
  again-stored = record {
    kept = again-kept;
    counted = again-kept.counted ∙ located-length again_places numbers;
    found = record {
      found = again-kept.found;
      placed = again-kept.placed;
      owned = λ j l w h. elim (same_or_other j (length ps)) [
        | inl same ↦
            (let end : get_or again_puts (length ps) None ≡ Some (key, coef) =
            get_or-set_other (ps ++ Some (with_coef key coef) ∷ []) i (length ps) None None (λ bad. let less = within in
            omega (arith, bad, less)) ∙ get_or-append_seam ps (some_pair (key, coef)) [] None in
            let is : key ≡ l = key_in key l coef w (sym end ∙ ap (λ m. get_or again_puts m None) (sym same) ∙ h) in
            ap (λ (x : SeriesKey). lookup (key_eq x) numbers) (sym is) ∙ f.owned i key v at
            ∙ ap some_num (sym (ap (λ m. get_or again_owners m 0) (same ∙ sym f.long) ∙ get_or-append_seam owners n [] 0)))
        | inr other ↦
            (let bound : j < length again_puts = held-within again_puts j (l, w) h in
            let less : j < length ps = omega (arith, bound, length-set (ps ++ Some (with_coef key coef) ∷ []) i None, long, other) in
            let old : get_or ps j None ≡ Some (l, w) = elim (same_or_other j i) [
              | inl same ↦ absurd (none-some (with_coef l w)
                  (sym (get_or-set_same (ps ++ Some (with_coef key coef) ∷ []) i None None (let inside = within in
                  omega (arith, inside, long))) ∙ ap (λ m. get_or again_puts m None) (sym same) ∙ h))
              | inr apart ↦ sym (get_or_append_left ps (Some (with_coef key coef) ∷ []) None j less)
                  ∙ sym (get_or-set_other (ps ++ Some (with_coef key coef) ∷ []) i j None None apart) ∙ h
            ] in
            f.owned j l w old ∙ ap some_num (sym (get_or_append_left owners (n ∷ []) 0 j (omega (arith, less, f.long)))))
      ];
      known = λ q m h. let less : m < length places = f.known q m h in omega (arith, less, length-set places n (length ps));
      long = omega (arith, length-append owners (n ∷ []), length-set (ps ++ Some (with_coef key coef) ∷ []) i None, long, f.long);
    };
  }

-- a pair of a new key is found behind the others
module _ (ps : List (Option (SeriesKey × Coef))) (owners places : List ℕ) (numbers news : List (SeriesKey × ℕ)) (start capacity : ℕ)
    (key : SeriesKey) (coef : Coef) (stored : AreStored ps owners places numbers start capacity)
    (none : lookup (key_eq key) numbers ≡ None)
    (told_new : (q : SeriesKey) → lookup (key_eq q) news ≡ cond (key_eq key q) (Some (length places)) (lookup (key_eq q) numbers))
    (counted_new : length news ≡ length numbers + 1) (room : length (reverse (shown ps)) < capacity) where
  abbrev g : AreFound ps owners places numbers
  g = stored.found

  abbrev pub anew_puts : List (Option (SeriesKey × Coef))
  anew_puts = ps ++ Some (with_coef key coef) ∷ []

  abbrev pub anew_owners : List ℕ
  anew_owners = owners ++ length places ∷ []

  abbrev pub anew_places : List ℕ
  anew_places = places ++ length ps ∷ []

  anew-told : (q : SeriesKey) → lookup (key_eq q) (located anew_places news) ≡ cond (key_eq key q) (Some (length ps))
      (lookup (key_eq q) (located places numbers))
  anew-told q = located-lookup anew_places news q ∙ ap (option_map (at_place anew_places)) (told_new q)
      ∙ (elim (key_eq key q) as (λ b. option_map (at_place anew_places) (cond b (Some (length places)) (lookup (key_eq q) numbers)) ≡ cond b
      (Some (length ps)) (lookup (key_eq q) (located places numbers))) [
        | true ↦ ap some_num (get_or-append_seam places (length ps) [] 0)
        | false ↦
            (elim (lookup (key_eq q) numbers) as (λ o. lookup (key_eq q) numbers ≡ o
            → option_map (at_place anew_places) o ≡ option_map (at_place places) o) [
              | None ↦ λ h. refl
              | Some m ↦ λ h. ap some_num (get_or_append_left places (length ps ∷ []) 0 m (g.known q m h))
            ]) refl
            ∙ sym (located-lookup places numbers q)
      ])

  anew-counted : length (located anew_places news) ≡ length (located places numbers) + 1
  anew-counted = omega (arith, located-length anew_places news, located-length places numbers, counted_new)

  anew-kept : AreKept anew_puts (located anew_places news) start capacity
  anew-kept =
      kept-anew ps anew_puts (located places numbers) (located anew_places news) start capacity (length ps) key coef None
      stored.kept (sym (none-located ps owners places numbers g key none)) refl refl anew-told anew-counted refl (λ _. room)

  pub anew-stored : AreStored anew_puts anew_owners anew_places news start capacity
  anew-stored = record {
    kept = anew-kept;
    counted = anew-kept.counted ∙ located-length anew_places news;
    found = record {
      found = anew-kept.found;
      placed = anew-kept.placed;
      owned = λ j l w h. elim (same_or_other j (length ps)) [
        | inl same ↦
            (let is : key ≡ l = key_in key l coef w (sym (get_or-append_seam ps (some_pair (key, coef)) [] None)
            ∙ ap (λ m. get_or anew_puts m None) (sym same) ∙ h) in
            told_new l ∙ ap (λ b. cond b (Some (length places)) (lookup (key_eq l) numbers)) (key_same key l (sym is))
            ∙ ap some_num (sym (ap (λ m. get_or anew_owners m 0) (same ∙ sym g.long) ∙ get_or-append_seam owners (length places) [] 0)))
        | inr other ↦
            (let bound : j < length anew_puts = held-within anew_puts j (l, w) h in
            let less : j < length ps = omega (arith, bound, length-append ps (Some (with_coef key coef) ∷ []), other) in
            let had = g.owned j l w (sym (get_or_append_left ps (Some (with_coef key coef) ∷ []) None j less) ∙ h) in
            let apart : l ≢ key = λ is. none-some (get_or owners j 0) (sym none ∙ ap (λ (x : SeriesKey). lookup (key_eq x) numbers) (sym is)
            ∙ had) in
            told_new l ∙ ap (λ b. cond b (Some (length places)) (lookup (key_eq l) numbers)) (key_differs key l apart) ∙ had
            ∙ ap some_num (sym (get_or_append_left owners (length places ∷ []) 0 j (omega (arith, less, g.long)))))
      ];
      known = λ q m h. (elim (key_eq key q) as (λ b. cond b (Some (length places)) (lookup (key_eq q) numbers) ≡ Some m
          → m < length anew_places) [
            | true ↦ λ t. let is : length places ≡ m = num_in (length places) m t in
                omega (arith, is, length-append places (length ps ∷ []))
            | false ↦ λ t. let less : m < length places = g.known q m t in omega (arith, less, length-append places (length ps ∷ []))
          ]) (sym (told_new q) ∙ h);
      long = omega (arith, length-append owners (length places ∷ []), length-append ps (Some (with_coef key coef) ∷ []), g.long);
    };
  }

-- a look-up that finds the same finds the same place
same-located : (places : List ℕ) (numbers news : List (SeriesKey × ℕ)) (q : SeriesKey) → lookup (key_eq q) news ≡ lookup (key_eq q) numbers
    → lookup (key_eq q) (located places news) ≡ lookup (key_eq q) (located places numbers)
same-located places numbers news q h = located-lookup places news q ∙ ap (option_map (at_place places)) h
    ∙ sym (located-lookup places numbers q)

-- a map that tells the same numbers
pub stored-reordered : (ps : List (Option (SeriesKey × Coef))) (owners places : List ℕ) (numbers news : List (SeriesKey × ℕ))
    (start capacity : ℕ) → AreStored ps owners places numbers start capacity
    → ((q : SeriesKey) → lookup (key_eq q) news ≡ lookup (key_eq q) numbers) → length news ≡ length numbers
    → AreStored ps owners places news start capacity
stored-reordered ps owners places numbers news start capacity stored same counted =
    let kept = kept-reordered ps ps (located places numbers) (located places news) start capacity stored.kept refl
    (λ q. same-located places numbers news q (same q))
    (omega (arith, located-length places news, located-length places numbers, counted)) in
    record {
      kept = kept;
      counted = kept.counted ∙ located-length places news;
      found = record {
        found = kept.found;
        placed = kept.placed;
        owned = λ i k v h. same k ∙ stored.found.owned i k v h;
        known = λ k n h. stored.found.known k n (sym (same k) ∙ h);
        long = stored.found.long;
      };
    }

-- the first pair that is held is let go
module _ (ps : List (Option (SeriesKey × Coef))) (owners places : List ℕ) (numbers news : List (SeriesKey × ℕ)) (start capacity i : ℕ)
    (key : SeriesKey) (stored : AreStored ps owners places numbers start capacity) where
  abbrev d : AreFound ps owners places numbers
  d = stored.found

  module _ (coef : Coef) (at : get_or ps i None ≡ Some (key, coef)) (before : (j : ℕ) → j < i → get_or ps j None ≡ None)
      (told_new : (q : SeriesKey) → lookup (key_eq q) news ≡ cond (key_eq key q) None (lookup (key_eq q) numbers))
      (counted_new : length news + 1 ≡ length numbers) where
    dropped-told : (q : SeriesKey) → lookup (key_eq q) (located places news) ≡ cond (key_eq key q) None
        (lookup (key_eq q) (located places numbers))
    dropped-told q = located-lookup places news q ∙ ap (option_map (at_place places)) (told_new q)
        ∙ (elim (key_eq key q) as (λ b. option_map (at_place places) (cond b None (lookup (key_eq q) numbers)) ≡ cond b None
        (lookup (key_eq q) (located places numbers))) [
          | true ↦ refl
          | false ↦ sym (located-lookup places numbers q)
        ])

    dropped-kept : AreKept (set ps i None) (located places news) i capacity
    dropped-kept = kept-dropped ps (located places numbers)
        (located places news) start capacity i key coef stored.kept at before dropped-told
        (omega (arith, located-length places news, located-length places numbers, counted_new))

    pub dropped-stored : AreStored (set ps i None) owners places news i capacity
    dropped-stored = record {
      kept = dropped-kept;
      counted = dropped-kept.counted ∙ located-length places news;
      found = record {
        found = dropped-kept.found;
        placed = dropped-kept.placed;
        owned = λ j l w h.
            let apart : j ≢ i = λ same. none-some (with_coef l w) (sym (get_or-set_same ps i None None (held-within ps i (key, coef) at))
            ∙ ap (λ m. get_or (set ps i None) m None) (sym same) ∙ h) in
            let old : get_or ps j None ≡ Some (l, w) = sym (get_or-set_other ps i j None None apart) ∙ h in
            let other : l ≢ key = λ is. apart (one-place ps owners places numbers d j i key w coef (old
            ∙ ap (λ (x : SeriesKey). some_pair (with_coef x w)) is) at) in
            told_new l ∙ ap (λ b. cond b None (lookup (key_eq l) numbers)) (key_differs key l other) ∙ d.owned j l w old;
        known = λ q m h. (elim (key_eq key q) as (λ b. cond b None (lookup (key_eq q) numbers) ≡ Some m → m < length places) [
          | true ↦ λ t. absurd (none-some m t)
          | false ↦ λ t. d.known q m t
        ]) (sym (told_new q) ∙ h);
        long = d.long ∙ sym (length-set ps i None);
      };
    }

pub stored-first : (ps seen : List (Option (SeriesKey × Coef))) (owners places : List ℕ) (numbers news : List (SeriesKey × ℕ))
    (start capacity i : ℕ) (key : SeriesKey) (gone : Option ℕ)
    → AreStored ps owners places numbers start capacity → seen ≡ ps → IsFirstHeld seen i key
    → ((q : SeriesKey) → lookup (key_eq q) news ≡ cond (key_eq key q) None (lookup (key_eq q) numbers))
    → gone ≡ lookup (key_eq key) numbers → length news + (if is_some gone then 1 else 0) ≡ length numbers
    → AreStored (set ps i None) owners places news i capacity
stored-first ps seen owners places numbers news start capacity i key gone stored same first told_new gone_is counted =
    let at : get_or ps i None ≡ Some (key, first.coef) = ap (λ l. get_or l i None) (sym same) ∙ first.is in
    let there : gone ≡ Some (get_or owners i 0) = gone_is ∙ stored.found.owned i key first.coef at in
    dropped-stored ps owners places numbers news start capacity i key stored first.coef at (λ j less. ap (λ l. get_or l j None) (sym same)
    ∙ first.before j less) told_new
    (sym (ap (λ (o : Option ℕ). length news + (if is_some o then 1 else 0)) there) ∙ counted)

-- puts at the same places are found as well
pub stored-alike : (ps qs : List (Option (SeriesKey × Coef))) (owners places : List ℕ) (numbers : List (SeriesKey × ℕ)) (start capacity : ℕ)
    → AreStored ps owners places numbers start capacity → AreAlike ps qs
    → AreStored qs owners places numbers start capacity
stored-alike ps qs owners places numbers start capacity stored h =
    let kept = kept-alike ps qs (located places numbers) start capacity stored.kept h in
    record {
      kept = kept;
      counted = kept.counted ∙ located-length places numbers;
      found = record {
        found = kept.found;
        placed = kept.placed;
        owned = λ i k v at. let was = alike-held qs ps (alike-turned ps qs h) i k v at in stored.found.owned i k was.0 was.1;
        known = stored.found.known;
        long = stored.found.long ∙ sym (alike-length ps qs h);
      };
    }

-- a pair that is the first behind the others comes to the place behind them
first-out : (ps : List (Option (SeriesKey × Coef))) (i : ℕ) (e : SeriesKey × Coef) → get_or ps i None ≡ Some e
    → ((m : ℕ) → m < i → get_or ps m None ≡ None) → e ∷ shown (set ps i None) ≡ shown ps
first-out [] i e at free = absurd (none-some e at)
first-out (p ∷ ps) zero e at free = ap (λ (o : Option (SeriesKey × Coef)). shown (o ∷ ps)) (sym at)
first-out (None ∷ ps) (suc i) e at free = first-out ps i e at (λ m less. free (suc m) (omega (arith, less)))
first-out (Some f ∷ ps) (suc i) e at free = absurd (none-some f (sym (free 0 (omega arith))))

shown-down : (ps : List (Option (SeriesKey × Coef))) (i j : ℕ) (e : SeriesKey × Coef) → get_or ps i None ≡ Some e → j ≤ i
    → ((m : ℕ) → j ≤ m → m < i → get_or ps m None ≡ None)
    → shown (set (set ps i None) j (Some e)) ≡ shown ps
shown-down [] i j e at le free = absurd (none-some e at)
shown-down (p ∷ ps) zero zero e at le free = ap (λ (o : Option (SeriesKey × Coef)). shown (o ∷ ps)) (sym at)
shown-down (p ∷ ps) zero (suc j) e at le free = absurd (omega (arith, le))
shown-down (None ∷ ps) (suc i) zero e at le free = first-out ps i e at (λ m less. free (suc m) (omega arith) (omega (arith, less)))
shown-down (Some f ∷ ps) (suc i) zero e at le free = absurd (none-some f (sym (free 0 (omega arith) (omega arith))))
shown-down (None ∷ ps) (suc i) (suc j) e at le free = shown-down ps i j e at (omega (arith, le))
    (λ m more less. free (suc m) (omega (arith, more)) (omega (arith, less)))
shown-down (Some f ∷ ps) (suc i) (suc j) e at le free = ap (λ l. f ∷ l)
    (shown-down ps i j e at (omega (arith, le)) (λ m more less. free (suc m) (omega (arith, more)) (omega (arith, less))))

-- the first pairs are at the first places so far, and none is held between them and the others
pub record AreClosed (old ps : List (Option (SeriesKey × Coef))) (owners places : List ℕ) (numbers : List (SeriesKey × ℕ))
    (j i : ℕ) : Type 0 where
  pub found : AreFound ps owners places numbers
  pub same : shown ps ≡ shown old
  pub free : (m : ℕ) → j ≤ m → m < i → get_or ps m None ≡ None
  pub below : j ≤ i
  pub size : length ps ≡ length old

module _ (old ps : List (Option (SeriesKey × Coef))) (owners places : List ℕ) (numbers : List (SeriesKey × ℕ)) (j i : ℕ)
    (was : AreClosed old ps owners places numbers j i) where
  -- an empty place is passed over
  pub closed-empty : get_or ps i None ≡ None → AreClosed old ps owners places numbers j (i + 1)
  closed-empty none = record {
    found = was.found;
    same = was.same;
    free = λ m more less. elim (same_or_other m i) [
      | inl same ↦ ap (λ x. get_or ps x None) same ∙ none
      | inr other ↦ was.free m more (omega (arith, less, other))
    ];
    below = omega (arith, was.below);
    size = was.size;
  }

  module _ (k : SeriesKey) (v : Coef) (at : get_or ps i None ≡ Some (k, v)) where
    abbrev c : AreFound ps owners places numbers
    c = was.found

    abbrev own : ℕ
    own = get_or owners i 0

    abbrev out : List (Option (SeriesKey × Coef))
    out = set ps i None

    abbrev qs : List (Option (SeriesKey × Coef))
    qs = set out j (Some (with_coef k v))

    inside : i < length ps
    inside = held-within ps i (k, v) at

    j_inside : j < length out
    j_inside = let less = inside in omega (arith, less, was.below, length-set ps i None)

    qs-at : get_or qs j None ≡ Some (k, v)
    qs-at = get_or-set_same out j (Some (with_coef k v)) None j_inside

    qs-other : (m : ℕ) → m ≢ j → m ≢ i → get_or qs m None ≡ get_or ps m None
    qs-other m a b = get_or-set_other out j m (Some (with_coef k v)) None a ∙ get_or-set_other ps i m None None b

    qs-none : (m : ℕ) → m ≢ j → m ≡ i → get_or qs m None ≡ None
    qs-none m a b = get_or-set_other out j m (Some (with_coef k v)) None a ∙ ap (λ x. get_or out x None) b
        ∙ get_or-set_same ps i None None inside

    from : (m : ℕ) (l : SeriesKey) (w : Coef) → get_or qs m None ≡ Some (l, w) → m ≢ j → (get_or ps m None ≡ Some (l, w)) × (m ≢ i)
    from m l w h a =
        let b : m ≢ i = λ same. none-some (with_coef l w) (sym (qs-none m a same) ∙ h) in
        (sym (qs-other m a b) ∙ h, b)

    own-told : (q : SeriesKey) → lookup (key_eq q) (located (set places own j) numbers) ≡ cond (key_eq k q) (Some j)
        (lookup (key_eq q) (located places numbers))
    own-told q = moved-told ps owners places numbers c i k v at j q

    closed-found : AreFound qs (set owners j own) (set places own j) numbers
    closed-found = record {
      found = λ q p h. elim (key_eq k q) as (λ b. key_eq k q ≡ b → (u : Coef) × (get_or qs p None ≡ Some (q, u))) [
        | true ↦ λ t.
            let num : j ≡ p = num_in j p (sym (own-told q ∙ ap (λ b. cond b (Some j) (lookup (key_eq q) (located places numbers))) t)
            ∙ h) in
            (v, ap (λ m. get_or qs m None) (sym num) ∙ qs-at ∙ ap (λ (x : SeriesKey). some_pair (with_coef x v)) (key_exact k q t))
        | false ↦ λ t.
            let had = c.found q p (sym (own-told q ∙ ap (λ b. cond b (Some j) (lookup (key_eq q) (located places numbers))) t) ∙ h) in
            let b : p ≢ i = λ same. key_apart k q t (key_in q k had.0 v (sym had.1 ∙ ap (λ m. get_or ps m None) same ∙ at)) in
            let a : p ≢ j = λ same. none-some (with_coef q had.0)
            (sym (was.free p (omega (arith, same)) (omega (arith, same, b, was.below))) ∙ had.1) in
            (had.0, qs-other p a b ∙ had.1)
      ] refl;
      placed = λ m q u h. elim (same_or_other m j) [
        | inl same ↦
            (let is : k ≡ q = key_in k q v u (sym qs-at ∙ ap (λ x. get_or qs x None) (sym same) ∙ h) in
            own-told q ∙ ap (λ b. cond b (Some j) (lookup (key_eq q) (located places numbers))) (key_same k q (sym is))
            ∙ ap some_num (sym same))
        | inr a ↦
            (let had = from m q u h a in
            let other : q ≢ k = λ is. had.1 (one-place ps owners places numbers c m i k u v (had.0
            ∙ ap (λ (x : SeriesKey). some_pair (with_coef x u)) is) at) in
            own-told q ∙ ap (λ b. cond b (Some j) (lookup (key_eq q) (located places numbers))) (key_differs k q other)
            ∙ c.placed m q u had.0)
      ];
      owned = λ m q u h. elim (same_or_other m j) [
        | inl same ↦
            (let is : k ≡ q = key_in k q v u (sym qs-at ∙ ap (λ x. get_or qs x None) (sym same) ∙ h) in
            ap (λ (x : SeriesKey). lookup (key_eq x) numbers) (sym is) ∙ c.owned i k v at
            ∙ ap some_num (sym (ap (λ x. get_or (set owners j own) x 0) same
            ∙ get_or-set_same owners j own 0 (let less = j_inside in omega (arith, less, length-set ps i None, c.long)))))
        | inr a ↦
            (let had = from m q u h a in
            c.owned m q u had.0 ∙ ap some_num (sym (get_or-set_other owners j m own 0 a)))
      ];
      known = λ q m h. let less : m < length places = c.known q m h in omega (arith, less, length-set places own j);
      long = omega (arith, length-set owners j own, length-set out j (Some (with_coef k v)), length-set ps i None, c.long);
    }

    -- a pair comes behind the first ones
    pub closed-more : AreClosed old (set (set ps i None) j (Some (with_coef k v))) (set owners j (get_or owners i 0))
        (set places (get_or owners i 0) j) numbers (j + 1) (i + 1)
    closed-more = record {
      found = closed-found;
      same = shown-down ps i j (k, v) at was.below was.free ∙ was.same;
      free = λ m more less.
          let a : m ≢ j = λ same. omega (arith, more, same) in
          elim (same_or_other m i) [
            | inl same ↦ qs-none m a same
            | inr b ↦ qs-other m a b ∙ was.free m (omega (arith, more)) (omega (arith, less, b))
          ];
      below = omega (arith, was.below);
      size = omega (arith, length-set out j (Some (with_coef k v)), length-set ps i None, was.size);
    }

none-behind : (ps : List (Option (SeriesKey × Coef))) (j : ℕ) → ((m : ℕ) → j ≤ m → m < length ps → get_or ps m None ≡ None)
    → shown (take j ps) ≡ shown ps
none-behind ps zero free = sym (none-shown ps (λ m less. free m (omega arith) less))
none-behind [] (suc j) free = refl
none-behind (None ∷ ps) (suc j) free = none-behind ps j (λ m more less. free (suc m) (omega (arith, more)) (omega (arith, less)))
none-behind (Some f ∷ ps) (suc j) free = ap (λ l. f ∷ l)
    (none-behind ps j (λ m more less. free (suc m) (omega (arith, more)) (omega (arith, less))))

-- the places behind the pairs are cut off
module _ (old ps : List (Option (SeriesKey × Coef))) (owners places : List ℕ) (numbers : List (SeriesKey × ℕ)) (j i : ℕ)
    (was : AreClosed old ps owners places numbers j i) (all : length old ≤ i) where
  behind : (m : ℕ) → j ≤ m → m < length ps → get_or ps m None ≡ None
  behind m more less = was.free m more (omega (arith, less, was.size, all))

  pub cut-shown : shown (take j ps) ≡ shown old
  cut-shown = none-behind ps j behind ∙ was.same

  cut-from : (m : ℕ) (k : SeriesKey) (v : Coef) → get_or (take j ps) m None ≡ Some (k, v) → (get_or ps m None ≡ Some (k, v)) × (m < j)
  cut-from m k v h =
      let less : m < length (take j ps) = held-within (take j ps) m (k, v) h in
      let under : m < j = omega (arith, less, length-take j ps) in
      (sym (get_or-take j ps m None under) ∙ h, under)

  cut-to : (m : ℕ) (k : SeriesKey) (v : Coef) → get_or ps m None ≡ Some (k, v) → get_or (take j ps) m None ≡ Some (k, v)
  cut-to m k v h = elim (cases_lt m j) [
    | inl under ↦ get_or-take j ps m None under ∙ h
    | inr more ↦ absurd (none-some (with_coef k v) (sym (behind m more (held-within ps m (k, v) h)) ∙ h))
  ]

  pub cut-found : AreFound (take j ps) (take j owners) places numbers
  cut-found = record {
    found = λ k m h. let had = was.found.found k m h in (had.0, cut-to m k had.0 had.1);
    placed = λ m k v h. let had = cut-from m k v h in was.found.placed m k v had.0;
    owned = λ m k v h. let had = cut-from m k v h in was.found.owned m k v had.0 ∙ ap some_num (sym (get_or-take j owners m 0 had.1));
    known = was.found.known;
    long = length-take j owners ∙ ap (min j) was.found.long ∙ sym (length-take j ps);
  }

-- what is told of puts and places that are seen by slices
pub told-seen : (ps seen : List (Option (SeriesKey × Coef))) (owners places spots : List ℕ) (numbers : List (SeriesKey × ℕ))
    → AreFound ps owners places numbers → seen ≡ ps → spots ≡ places
    → (key : SeriesKey) → IsTold seen spots numbers key
told-seen ps seen owners places spots numbers f same alike key =
    subst (λ (l : List (Option (SeriesKey × Coef))). IsTold l spots numbers key) (sym same)
    (subst (λ (l : List ℕ). IsTold ps l numbers key) (sym alike) (told ps owners places numbers f key))

-- a key that has no number isn't there
pub none-held : (ps : List (Option (SeriesKey × Coef))) (owners places : List ℕ) (numbers : List (SeriesKey × ℕ)) (start capacity : ℕ)
    → AreStored ps owners places numbers start capacity
    → (key : SeriesKey) → lookup (key_eq key) numbers ≡ None → lookup (key_eq key) (reverse (shown ps)) ≡ None
none-held ps owners places numbers start capacity stored key none = not-held ps (located places numbers) start capacity stored.kept key
    (none-located ps owners places numbers stored.found key none)

-- a key that isn't there has no number
pub none-numbered : (ps : List (Option (SeriesKey × Coef))) (owners places : List ℕ) (numbers : List (SeriesKey × ℕ)) (start capacity : ℕ)
    → AreStored ps owners places numbers start capacity
    → (key : SeriesKey) → has (reverse (shown ps)) key ≡ false → lookup (key_eq key) numbers ≡ None
none-numbered ps owners places numbers start capacity stored key
    new = (elim (lookup (key_eq key) numbers) as (λ o. lookup (key_eq key) numbers ≡ o → o ≡ None) [
      | None ↦ λ h. refl
      | Some n ↦ λ h.
          let held = (told ps owners places numbers stored.found key).held n h in
          let found = found-held ps (located places numbers) start capacity stored.kept (get_or places n 0) key held.0 held.1 in
          absurd (let bad : true ≡ false = sym (ap is_some found) ∙ new in cc)
    ]) refl

-- the same as it was
pub stored-same : (ps now : List (Option (SeriesKey × Coef))) (owners owners' places places' : List ℕ) (numbers news : List (SeriesKey × ℕ))
    (start capacity : ℕ) → AreStored ps owners places numbers start capacity
    → now ≡ ps → owners' ≡ owners → places' ≡ places → ((q : SeriesKey) → lookup (key_eq q) news ≡ lookup (key_eq q) numbers)
    → length news ≡ length numbers → AreStored now owners' places' news start capacity
stored-same ps now owners owners' places places' numbers news start capacity stored a b c told_new counted_new =
    subst (λ (l : List (Option (SeriesKey × Coef))). AreStored l owners' places' news start capacity) (sym a)
    (subst (λ (l : List ℕ). AreStored ps l places' news start capacity) (sym b)
    (subst (λ (l : List ℕ). AreStored ps owners l news start capacity) (sym c)
    (stored-reordered ps owners places numbers news start capacity stored told_new counted_new)))

-- the same but for what is known of its lists
pub stored-by : (qs now : List (Option (SeriesKey × Coef))) (owners owners' places places' : List ℕ) (numbers : List (SeriesKey × ℕ))
    (start capacity : ℕ) → AreStored qs owners places numbers start capacity
    → now ≡ qs → owners' ≡ owners → places' ≡ places → AreStored now owners' places' numbers start capacity
stored-by qs now owners owners' places places' numbers start capacity stored a b c = stored-same qs now owners owners' places places'
    numbers numbers start capacity stored a b c (λ q. refl) refl

pub closed-by : (old ps now : List (Option (SeriesKey × Coef))) (owners owners' places places' : List ℕ) (numbers : List (SeriesKey × ℕ))
    (j j' i : ℕ) → AreClosed old ps owners places numbers j i
    → now ≡ ps → owners' ≡ owners → places' ≡ places → j' ≡ j → AreClosed old now owners' places' numbers j' i
closed-by old ps now owners owners' places places' numbers j j' i closed a b c e =
    subst (λ (n : ℕ). AreClosed old now owners' places' numbers n i) (sym e)
    (subst (λ (l : List (Option (SeriesKey × Coef))). AreClosed old l owners' places' numbers j i) (sym a)
    (subst (λ (l : List ℕ). AreClosed old ps l places' numbers j i) (sym b)
    (subst (λ (l : List ℕ). AreClosed old ps owners l numbers j i) (sym c) closed)))

-- what is read at a place
pub indexed : (ps : List (Option (SeriesKey × Coef))) (i : ℕ) (put o : Option (SeriesKey × Coef)) → put ≡ get_or ps i put → i < length ps
    → put ≡ o → get_or ps i None ≡ o
indexed ps i put o at less is = sym (at ∙ get_or_default ps i put None less) ∙ is

-- what holds where a call was well, and what holds where it failed
pub on_ok : {X E P Q : Type 0} (r : Result X E) → (P → Q) → OnOk r P → OnOk r Q
on_ok (Ok x) g h = g h
on_ok (Err e) g h = h

pub by_result : {X E A B D F G K L M N C : Type 0} (r : Result X E) → OnOk r A → OnOk r B → OnOk r D → OnOk r F → OnOk r G → OnErr r K
    → OnErr r L → OnErr r M → OnErr r N
    → (A → B → D → F → G → C) → (K → L → M → N → C) → C
by_result (Ok x) a b d f g k l m n well failed = well a b d f g
by_result (Err e) a b d f g k l m n well failed = failed k l m n
