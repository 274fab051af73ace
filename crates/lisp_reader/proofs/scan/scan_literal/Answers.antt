use Rattle.std.proofs.Common.{◌≡◌, true, ◌==◌, get_or, arith, ap, sym, ◌∙◌}
use Rattle.std.proofs.lemmas.Bool.{false≢true}
use Rattle.std.proofs.lemmas.Bool.Decides.{nat_tests}
use Rattle.lisp_reader.proofs.Literals.{characters_whole, goes_behind_back, goes_first, literal_ends}
use Rattle.lisp_reader.proofs.scan.scan_literal.Goals as goal
use Rattle.lisp_reader.proofs.scan.scan_literal.Goals.{then-byte-eq92, else-byte-eq92}

pub loop-next-init : goal.loop-next-init
loop-next-init c = goes_first c.args.text.now _ c.args.at c.requires.inside c.requires.quote c.requires.whole c.new-characters.ensures.items

pub unreachable-requires : goal.unreachable-requires
unreachable-requires c =
    false≢true (c.in-Err.ensures.succeeds (characters_whole _ c.args.text.now c.loop-next.next c.loop-next-test.true c.if-byte-eq34.true c.loop-next.invariant.whole))

pub returns-then-not-escaped : goal.returns-then-not-escaped
returns-then-not-escaped c =
    literal_ends c.args.text.now _ _ c.args.at c.loop-next.next c.loop-next.escaped c.loop-next.invariant.further c.loop-next-test.true c.if-byte-eq34.true
    c.if-not-escaped.true c.loop-next.invariant.whole c.loop-next.invariant.same (ap (λ v. v.items) c.in-Ok.ensures.ok)

pub loop-next-preserved : goal.loop-next-preserved
loop-next-preserved c =
    elim c.if-byte-eq92.branch [
      | then-byte-eq92 w ↦ goes_behind_back c.args.text.now _ c.args.at c.loop-next.next _ _ c.loop-next-test.true w.if-byte-eq92.true w.escaped-is c.if-not-escaped-2.false c.loop-next.invariant
      | else-byte-eq92 w ↦
          let back : (get_or c.args.text.now c.loop-next.next 0 == 92) ≡ true = sym w.escaped-is ∙ c.if-not-escaped-2.false in
          absurd (w.if-byte-eq92.false (grind (arith, nat_tests)))
    ]
