-- Plain forms, and the first form that is not run yet, of forms written flat.
use Rattle.std.specs.Prelude.{ℕ, List, [], ◌∷◌, Option}
use Rattle.lisp_program.specs.declared.form.FormNode.{FormNode}
use Rattle.plain_program.specs.declared.form.PlainNode.{PlainNode}
use Rattle.plain_program.specs.Plain.{kind_or_nil, least, place_without, plain_kind}

-- one node as a plain one
abbrev pub plain_node : FormNode → PlainNode
plain_node n = record { kind = kind_or_nil (plain_kind n.kind); place = n.place; parts = n.parts }

-- the least of this place and those of the forms that are not run yet
abbrev pub unbuilt_from : Option ℕ → List FormNode → Option ℕ
unbuilt_from found [] = found
unbuilt_from found (n ∷ ns) = unbuilt_from (least found (place_without (plain_kind n.kind) n.place)) ns
