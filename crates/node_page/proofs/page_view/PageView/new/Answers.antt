use Rattle.std.proofs.Common.{◌≡◌, true, false}
use Rattle.node_page.proofs.page_view.PageView.new.Goals as goal

pub returns-then-not-has_level-clause-bad : goal.returns-then-not-has_level-clause-bad
returns-then-not-has_level-clause-bad c = (
  c.if-bytes-ne-KIND.false,
  λ good. let yes : c.has_level.result ≡ true = c.has_level.ensures.1 good in
      let no : c.has_level.result ≡ false = c.if-not-has_level.true in cc,
)

pub returns-then-not-is_reserved-clause-bad : goal.returns-then-not-is_reserved-clause-bad
returns-then-not-is_reserved-clause-bad c = (
  c.if-bytes-ne-KIND.false,
  c.has_level.ensures.0 c.if-not-has_level.false,
  λ good. let yes : c.is_reserved.result ≡ true = c.is_reserved.ensures.1 good in
      let no : c.is_reserved.result ≡ false = c.if-not-is_reserved.true in cc,
)

pub returns-then-not-are_flags-clause-bad : goal.returns-then-not-are_flags-clause-bad
returns-then-not-are_flags-clause-bad c = (
  c.if-bytes-ne-KIND.false,
  c.has_level.ensures.0 c.if-not-has_level.false,
  c.is_reserved.ensures.0 c.if-not-is_reserved.false,
  λ good. let yes : c.are_flags.result ≡ true = c.are_flags.ensures.1 good in
      let no : c.are_flags.result ≡ false = c.if-not-are_flags.true in cc,
)

pub returns-then-not-are_differences-clause-bad : goal.returns-then-not-are_differences-clause-bad
returns-then-not-are_differences-clause-bad c = (
  c.if-bytes-ne-KIND.false,
  c.has_level.ensures.0 c.if-not-has_level.false,
  c.is_reserved.ensures.0 c.if-not-is_reserved.false,
  c.are_flags.ensures.0 c.if-not-are_flags.false,
  λ good. let yes : c.are_differences.result ≡ true = c.are_differences.ensures.1 good in
      let no : c.are_differences.result ≡ false = c.if-not-are_differences.true in cc,
)

pub returns-then-not-are_children-clause-bad : goal.returns-then-not-are_children-clause-bad
returns-then-not-are_children-clause-bad c = (
  c.if-bytes-ne-KIND.false,
  c.has_level.ensures.0 c.if-not-has_level.false,
  c.is_reserved.ensures.0 c.if-not-is_reserved.false,
  c.are_flags.ensures.0 c.if-not-are_flags.false,
  c.are_differences.ensures.0 c.if-not-are_differences.false,
  λ good. let yes : c.are_children.result ≡ true = c.are_children.ensures.1 good in
      let no : c.are_children.result ≡ false = c.if-not-are_children.true in cc,
)

pub returns-clause-keeps : goal.returns-clause-keeps
returns-clause-keeps c = record {
  kind = c.if-bytes-ne-KIND.false;
  level = c.has_level.ensures.0 c.if-not-has_level.false;
  reserved = c.is_reserved.ensures.0 c.if-not-is_reserved.false;
  flags = c.are_flags.ensures.0 c.if-not-are_flags.false;
  differences = c.are_differences.ensures.0 c.if-not-are_differences.false;
  children = c.are_children.ensures.0 c.if-not-are_children.false;
}
