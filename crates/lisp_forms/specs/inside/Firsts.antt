-- One datum of several, as the code has it, as a form.
use Rattle.lisp_data.specs.declared.items.First.{First}
use Rattle.lisp_data.specs.declared.items.First.TheVariants.{Leaf as LeafFirst, List as ListFirst}
use Rattle.form_shapes.specs.declared.keywords.Roles.TheVariants.{From}
use Rattle.form_shapes.specs.Seats.{misplaced_kind}
use Rattle.form_shapes.specs.Scopes.{Scope, leaf_form}
use Rattle.lisp_forms.specs.Expansion.{by_roles, leaf_single, listed, seated}
use Rattle.lisp_forms.specs.Trees.{Single, first, leaf, nil_form}

-- one as a form
abbrev pub first_form : Scope → First → Single
first_form s (LeafFirst l p) = leaf_single s l p
first_form s (ListFirst p under) = listed s p under

-- one in a function's seat
abbrev pub first_seated : Scope → First → Single
first_seated s (LeafFirst l p) = leaf (misplaced_kind (leaf_form s l)) p
first_seated s (ListFirst p under) = seated s p under

-- the value of one binding
abbrev pub bound_value : Scope → First → Single
bound_value s (LeafFirst l p) = nil_form p
bound_value s (ListFirst p under) = first p (by_roles s (From 1) 0 under)
