use Rattle.std.proofs.Common.{◌≡◌, ◌∙◌, ◌+◌, ◌<◌, ◌++◌, List, Bool, Some, length, take, drop, get_or, pos, true, false, sym, ap, arith}
use Rattle.std.proofs.lemmas.List.{length-set}
use Rattle.om3_coeff.specs.declared.key.Key.{Key}
use Rattle.om3_coeff.specs.declared.coef.Coef.{Coef}
use Rattle.coefficient_cache.specs.Pairs.{series_key}
use Rattle.coefficient_cache.specs.Puts.{held_of, put_in}
use Rattle.coefficient_cache.proofs.Kept.{with_coef}
use Rattle.coefficient_cache.proofs.Fronts.{set-more}
use Rattle.coefficient_cache.proofs.InLine.{held-here, held-count, at-count}
use Rattle.coefficient_cache.proofs.in_line.set_in_line.Goals as goal
use Rattle.coefficient_cache.proofs.in_line.set_in_line.Goals.{then-not-is_new-i, else-not-is_new-i}

abbrev none : Key × Coef
none = (record { level = 0; index = 0 }, record { left = false; right = false; dmin = pos 0; dmax = pos 0 })

pub overflow_add-start : goal.overflow_add-start
overflow_add-start c =
    let here = held-here c.args.needed.now c.args.is_new.now c.loop-i.i none false c.loop-i-test.true c.requires.flags
    c.if-not-is_new-i.true in
    let less = here.0 in
    omega (arith, less, c.loop-i.invariant.counted, c.requires.fits, c.len-end.ensures, c.args.puts.now.ok.0)

pub index_mut-requires : goal.index_mut-requires
index_mut-requires c =
    let here = held-here c.args.needed.now c.args.is_new.now c.loop-i.i none false c.loop-i-test.true c.requires.flags
    c.if-not-is_new-i.true in
    let less = here.0 in
    omega (arith, less, c.loop-i.invariant.counted, c.loop-i.invariant.size, c.requires.fits, c.loop-i.puts.ok.0)

pub overflow_add-count : goal.overflow_add-count
overflow_add-count c =
    let here = held-here c.args.needed.now c.args.is_new.now c.loop-i.i none false c.loop-i-test.true c.requires.flags
    c.if-not-is_new-i.true in
    let less = here.0 in
    omega (arith, less, c.loop-i.invariant.counted, c.requires.fits, c.len-end.ensures, c.args.puts.now.ok.0)

pub loop-i-preserved : goal.loop-i-preserved
loop-i-preserved c = elim c.if-not-is_new-i.branch [
  | then-not-is_new-i w ↦
      let needed : List (Key × Coef) = c.args.needed.now in
      let flags : List Bool = c.args.is_new.now in
      let was = c.loop-i.invariant in
      let here = held-here needed flags c.loop-i.i none false c.loop-i-test.true c.requires.flags w.if-not-is_new-i.true in
      let less : c.loop-i.count < length (held_of needed flags) = at-count c.loop-i.count
      (length (held_of (take c.loop-i.i needed) (take c.loop-i.i flags))) (length (held_of needed flags)) was.counted here.0 in
      let pair : get_or (held_of needed flags) c.loop-i.count none ≡ get_or needed c.loop-i.i
      none = ap (λ n. get_or (held_of needed flags) n none) was.counted ∙ here.1 in
      let coef : Coef = (get_or needed c.loop-i.i none).1 in
      let more = held-count needed flags c.loop-i.i none false false c.loop-i-test.true c.requires.flags w.if-not-is_new-i.true in
      record {
        set = ap (λ p. p.items) w.puts-is
            ∙ set-more c.args.puts.now.items c.loop-i.puts.items c.args.start c.args.series
            (held_of needed flags) c.loop-i.count none w.new.result coef c.requires.fits less was.set
            (w.new.ensures ∙ sym (ap (λ (e : Key × Coef). series_key c.args.series e.0) pair)) (sym (ap (λ (e : Key × Coef). e.1) pair))
            ∙ (λ i. (take c.args.start c.args.puts.now.items ++ put_in c.args.series
            (take (sym w.count-is i) (held_of needed flags))) ++ drop (c.args.start + sym w.count-is i) c.args.puts.now.items);
        counted = omega (arith, w.count-is, more, was.counted);
        size = ap (λ p. length p.items) w.puts-is ∙ length-set c.loop-i.puts.items (c.args.start + c.loop-i.count)
            (Some (with_coef w.new.result coef)) ∙ was.size;
      }
  | else-not-is_new-i w ↦
      let needed : List (Key × Coef) = c.args.needed.now in
      let flags : List Bool = c.args.is_new.now in
      let was = c.loop-i.invariant in
      let more = held-count needed flags c.loop-i.i none false true c.loop-i-test.true c.requires.flags w.if-not-is_new-i.false in
      record {
        set = ap (λ p. p.items) w.puts-is ∙ was.set
            ∙ (λ i. (take c.args.start c.args.puts.now.items ++ put_in c.args.series
            (take (sym w.count-is i) (held_of needed flags))) ++ drop (c.args.start + sym w.count-is i) c.args.puts.now.items);
        counted = omega (arith, w.count-is, more, was.counted);
        size = ap (λ p. length p.items) w.puts-is ∙ was.size;
      }
]
