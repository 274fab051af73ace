use Rattle.std.proofs.Common.{◌↔◌, map, drop}
use Rattle.lisp_code.specs.Validity.{clause_going}
use Rattle.lisp_code.specs.inside.Lying.{EachLies}
use Rattle.lisp_code.proofs.valid.clauses_lie.Given as goal

abbrev pub invariant-loop-clause : goal.invariant-loop-clause
invariant-loop-clause l =
    EachLies l.parts (map (clause_going l.height) (drop l.clause-index l.clauses)) ↔ EachLies l.parts (map (clause_going l.height) l.clauses)
