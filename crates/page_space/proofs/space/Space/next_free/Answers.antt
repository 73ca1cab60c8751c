-- The head of the chain is taken, as the page there says.
use Rattle.std.proofs.Common.{◌≡◌, ◌≢◌, ◌∙◌, ℕ, List, inl, refl, sym, ap}
use Rattle.block_disk.specs.View.{Image}
use Rattle.page_space.specs.Causes.{FromChain}
use Rattle.page_space.specs.Layout.{Links, without_head}
use Rattle.page_space.specs.declared.superblock.Superblock.{Superblock}
use Rattle.page_space.proofs.space.Space.next_free.Goals as goal

from_chain : (told : Type 0) (image : Image) (s s' : Superblock) (next : ℕ) (page : List ℕ) → s.chain ≢ 0 → Links s next page
    → (told → page ≡ image s.head) → s' ≡ without_head s next → FromChain told image s s' s.head
from_chain told image s s' next page some links read is = rw is (record {
  some = some;
  head_is = refl;
  rule = links.rule;
  spelled = λ is_told. sym (read is_told) ∙ links.spelled;
  after = refl;
})

pub returns : goal.returns
returns g c =
    let read = c.read.ensures in
    let taken = c.without_head.ensures in
    record {
      takes = inl (from_chain _ _ c.args.txn.now.superblock c.without_head.result c.in-Some.next c.read.new.out c.if-superblock-eq0.false
          c.in-Some.ensures.next c.in_ok-read.ensures.page taken.numbers);
      cause = tt;
      quiet = c.in_ok-read.ensures.quiet;
      quiet_err = tt;
      reads = read.reads;
      goes_on = read.goes_on;
      superblock = read.superblock;
      unread = λ none. absurd (c.if-superblock-eq0.false none);
      freed = λ held. (read.held held).1.0;
      hit = λ held. (read.hit held).1;
      others = read.others;
      rules = taken.rules;
      same_total = ap (λ (s : Superblock). s.total) taken.numbers;
      small = taken.small;
    }

pub returns-in_default : goal.returns-in_default
returns-in_default g c =
    let read = c.read.ensures in
    let s = c.args.txn.now.superblock in
    record {
      takes = tt;
      cause = (
        c.if-superblock-eq0.false,
        (
          refl,
          λ is_told next links. c.in_default.ensures.none next
              (rw (c.in_ok-read.ensures.page is_told) links),
        ),
      );
      quiet = tt;
      quiet_err = λ _. c.in_ok-read.ensures.quiet;
      reads = read.reads;
      goes_on = read.goes_on;
      superblock = read.superblock;
      unread = λ none. absurd (c.if-superblock-eq0.false none);
      freed = λ held. (read.held held).1.0;
      hit = λ held. (read.hit held).1;
      others = read.others;
      rules = tt;
      same_total = tt;
      small = tt;
    }
