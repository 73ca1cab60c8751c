-- What the streams beside a space leave as it is.
use Rattle.std.specs.Prelude.{◌≡◌}
use Rattle.std.proofs.Common.{◌∙◌, refl}
use Rattle.page_space.specs.declared.page_cache.PageCache.{PageCache}
use Rattle.page_space.specs.declared.superblock.Superblock.{Superblock}

-- the pages change so, and all else stays: the numbers of page 0, and the cache
pub record KeepsBeside (pages : Type 0) (before after : Superblock) (old new : PageCache) : Type 0 where
  pub pages_are : pages
  pub superblock : after ≡ before
  pub cache : new ≡ old

pub beside_none : (pages : Type 0) (before : Superblock) (old : PageCache) → pages → KeepsBeside pages before before old old
beside_none pages before old are = record { pages_are = are; superblock = refl; cache = refl }

pub beside_then : (one two both : Type 0) (s s' s'' : Superblock) (old between new : PageCache) → (one → two → both)
    → KeepsBeside one s s' old between → KeepsBeside two s' s'' between new → KeepsBeside both s s'' old new
beside_then one two both s s' s'' old between new join first second = record {
  pages_are = join first.pages_are second.pages_are;
  superblock = second.superblock ∙ first.superblock;
  cache = second.cache ∙ first.cache;
}

pub beside_so : (one two : Type 0) (before after : Superblock) (old new : PageCache) → (one → two) → KeepsBeside one before after old new
    → KeepsBeside two before after old new
beside_so one two before after old new more keeps = record {
  pages_are = more keeps.pages_are;
  superblock = keeps.superblock;
  cache = keeps.cache;
}
