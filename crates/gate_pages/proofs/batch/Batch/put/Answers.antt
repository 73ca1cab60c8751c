use Rattle.std.proofs.Common.{◌≡◌, ◌∙◌, ℕ, ◌+◌, ◌≤◌, ◌<◌, cond, List, length, set, Option, Some, None, is_some, IsTrue, sym, ap, arith}
use Rattle.std.proofs.Common.{rules, inl, inr}
use Rattle.std.proofs.lemmas.Bool.{cases_lt}
use Rattle.std.proofs.lemmas.List.{length-set}
use Rattle.gate_pages.specs.Batch.{page_in}
use Rattle.gate_pages.specs.Entries.{entries}
use Rattle.gate_pages.proofs.BatchLemmas.{length_entries, none_there, some_there, added_distinct, added_page, kept_distinct, kept_page}
use Rattle.gate_pages.proofs.batch.Batch.put.Goals as goal

nothing : (o : Option (List ℕ)) → o ≡ None → IsTrue (is_some o) → ⊥
nothing None = λ is some. search rules
nothing (Some page) = λ is some. search rules

pub index_mut-page-requires : goal.index_mut-page-requires
index_mut-page-requires c =
    let self = c.args.self.now in
    let len = self.len in
    let pages = self.pages.items in
    let at = c.place-at.result in
    let within : len ≤ length pages = omega (arith, self.within, self.room) in
    let small : at < 64 = elim (cases_lt at len) [
      | inl below ↦ omega (arith, below, self.within)
      | inr above ↦
          let is : at ≡ len = omega (arith, above, c.place-at.ensures.within) in
          elim c.requires.room [
            | inl some ↦ absurd (nothing (page_in (entries self) c.args.p)
                (none_there len at c.args.p pages within c.place-at.ensures.within c.place-at.ensures.before is) some)
            | inr less ↦ omega (arith, less, is, length_entries len pages within)
          ]
    ] in
    omega (arith, small, self.room, self.pages.ok.0)

pub invariant_of-self : goal.invariant_of-self
invariant_of-self c =
    let self = c.args.self.now in
    let len = self.len in
    let pages = self.pages.items in
    let at = c.place-at.result in
    let within : len ≤ length pages = omega (arith, self.within, self.room) in
    let is = c.if-at-self.true in
    let less : len < 64 = elim c.requires.room [
      | inl some ↦ absurd (nothing (page_in (entries self) c.args.p)
          (none_there len at c.args.p pages within c.place-at.ensures.within c.place-at.ensures.before is) some)
      | inr fewer ↦ omega (arith, fewer, length_entries len pages within)
    ] in
    record {
      room = length-set pages at c.set.new.self ∙ self.room;
      within = omega (arith, less);
      distinct = added_distinct len at c.args.p pages within c.place-at.ensures.within c.place-at.ensures.before c.set.new.self
          c.args.bytes.now c.set.ensures.number c.set.ensures.bytes is (omega (arith, less, self.room)) self.distinct;
    }

pub invariant_of-self-else-at-self : goal.invariant_of-self-else-at-self
invariant_of-self-else-at-self c =
    let self = c.args.self.now in
    let len = self.len in
    let pages = self.pages.items in
    let at = c.place-at.result in
    let within : len ≤ length pages = omega (arith, self.within, self.room) in
    let below : at < len = omega (arith, c.place-at.ensures.within, c.if-at-self.false) in
    record {
      room = length-set pages at c.set.new.self ∙ self.room;
      within = self.within;
      distinct = kept_distinct len at c.args.p pages within c.place-at.ensures.within c.place-at.ensures.before c.set.new.self
          c.args.bytes.now c.set.ensures.number c.set.ensures.bytes below (c.place-at.ensures.found below) self.distinct;
    }

pub returns-then-at-self-clause-page : goal.returns-then-at-self-clause-page
returns-then-at-self-clause-page c number =
    let self = c.args.self.now in
    let len = self.len in
    let pages = self.pages.items in
    let at = c.place-at.result in
    let within : len ≤ length pages = omega (arith, self.within, self.room) in
    let is = c.if-at-self.true in
    let less : len < 64 = elim c.requires.room [
      | inl some ↦ absurd (nothing (page_in (entries self) c.args.p)
          (none_there len at c.args.p pages within c.place-at.ensures.within c.place-at.ensures.before is) some)
      | inr fewer ↦ omega (arith, fewer, length_entries len pages within)
    ] in
    added_page len at c.args.p pages within c.place-at.ensures.within c.place-at.ensures.before c.set.new.self c.args.bytes.now
    c.set.ensures.number c.set.ensures.bytes number is (omega (arith, less, self.room))

pub returns-then-at-self-clause-len : goal.returns-then-at-self-clause-len
returns-then-at-self-clause-len c =
    let self = c.args.self.now in
    let len = self.len in
    let pages = self.pages.items in
    let at = c.place-at.result in
    let within : len ≤ length pages = omega (arith, self.within, self.room) in
    let is = c.if-at-self.true in
    let less : len < 64 = elim c.requires.room [
      | inl some ↦ absurd (nothing (page_in (entries self) c.args.p)
          (none_there len at c.args.p pages within c.place-at.ensures.within c.place-at.ensures.before is) some)
      | inr fewer ↦ omega (arith, fewer, length_entries len pages within)
    ] in
    let none = none_there len at c.args.p pages within c.place-at.ensures.within c.place-at.ensures.before is in
    let was = length_entries len pages within in
    let more : len + 1 ≤ length (set pages at c.set.new.self) = omega (arith, length-set pages at c.set.new.self, less, self.room) in
    length_entries (len + 1) (set pages at c.set.new.self) more
    ∙ sym (ap (λ (o : Option (List ℕ)). cond (is_some o) (length (entries self)) (length (entries self) + 1)) none ∙ ap (λ n. n + 1) was)

pub returns-else-at-self-clause-page : goal.returns-else-at-self-clause-page
returns-else-at-self-clause-page c number =
    let self = c.args.self.now in
    let len = self.len in
    let pages = self.pages.items in
    let at = c.place-at.result in
    let within : len ≤ length pages = omega (arith, self.within, self.room) in
    let below : at < len = omega (arith, c.place-at.ensures.within, c.if-at-self.false) in
    kept_page len at c.args.p pages within c.place-at.ensures.within c.place-at.ensures.before c.set.new.self c.args.bytes.now
    c.set.ensures.number c.set.ensures.bytes number below (c.place-at.ensures.found below)

pub returns-else-at-self-clause-len : goal.returns-else-at-self-clause-len
returns-else-at-self-clause-len c =
    let self = c.args.self.now in
    let len = self.len in
    let pages = self.pages.items in
    let at = c.place-at.result in
    let within : len ≤ length pages = omega (arith, self.within, self.room) in
    let below : at < len = omega (arith, c.place-at.ensures.within, c.if-at-self.false) in
    let some = some_there len at c.args.p pages within c.place-at.ensures.within c.place-at.ensures.before below
    (c.place-at.ensures.found below) in
    let all : len ≤ length (set pages at c.set.new.self) = omega (arith, length-set pages at c.set.new.self, within) in
    length_entries len (set pages at c.set.new.self) all ∙ sym (length_entries len pages within)
    ∙ sym (ap (λ (o : Option (List ℕ)). cond (is_some o) (length (entries self)) (length (entries self) + 1)) some)
