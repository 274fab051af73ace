-- A token that is a leaf is taken, and what a refusal says of a part.
use Rattle.std.specs.Result.{IfErr}
use Rattle.std.proofs.Common.{◌≡◌, ℕ, Result, Ok, Err, IsErrAnd, List, [], ◌∷◌, ◌++◌, ap, subst, sym, ◌∙◌}
use Rattle.lisp_base.specs.declared.refusal.Rejection.{Rejection}
use Rattle.lisp_data.specs.declared.datum.Leaf.{Leaf}
use Rattle.lisp_reader.specs.declared.gather.Mark.{Mark}
use Rattle.lisp_reader.specs.declared.gather.MarkKind.TheVariants.{ALeaf}
use Rattle.lisp_reader.specs.declared.opens.Opening.{Opening}
use Rattle.lisp_reader.specs.Gathering.{settled, with_part}
use Rattle.lisp_reader.specs.inside.Marking.{IsLeaf, RefusedPart, TookPart}
use Rattle.lisp_reader.specs.Parts.{Part, Token'}
use Rattle.lisp_reader.specs.Tables.{Tables, tables_of}
use Rattle.lisp_reader.proofs.Used.{taken_uses}

-- a token that is a leaf ends a datum, and its mark comes behind the others
pub token_taken : (letters : List ℕ) (place : ℕ) (os os' : List Opening) (old new literals : List (List ℕ)) (leaf : Leaf) (before after : List Mark)
    → IsLeaf letters old new leaf → os' ≡ settled os → after ≡ before ++ (record { kind = ALeaf leaf; place = place }) ∷ []
    → TookPart (Token' place letters) os os' (tables_of old literals) (tables_of new literals) before after
token_taken letters place os os' old new literals leaf before after l opens' put =
    let ends = l.ends os literals place in
    record {
      fine = ap (λ t. t.fault) ends;
      opens = opens' ∙ sym (ap (λ t. t.opens) ends);
      tables = sym (ap (λ t. t.tables) ends);
      marks = put ∙ ap (λ x. before ++ (record { kind = ALeaf x; place = place }) ∷ []) l.same;
    }

-- what is refused of a part is refused of the same part
pub refused_as : {A : Type 0} (part other : Part) (os : List Opening) (t t' : Tables) (result : Result A Rejection) → other ≡ part
    → IfErr result (RefusedPart part os t t') → IfErr result (RefusedPart other os t t')
refused_as part other os t t' result is h = subst (λ (x : Part). IfErr result (RefusedPart x os t t')) (sym is) h

-- where the mark of a leaf finds no memory, the tables have what the token uses
pub leaf_used : (letters : List ℕ) (place : ℕ) (os : List Opening) (old new literals : List (List ℕ)) (leaf : Leaf) → IsLeaf letters old new leaf
    → tables_of new literals ≡ with_part (tables_of old literals) (Token' place letters)
leaf_used letters place os old new literals leaf l =
    let ends = l.ends os literals place in
    sym (ap (λ t. t.tables) ends) ∙ taken_uses os (tables_of old literals) (Token' place letters) (ap (λ t. t.fault) ends)

-- the error that `?` passes on is the same
pub passed_on : {A : Type 0} (result : Result A Rejection) (refusal : Rejection) (P : Rejection → Type 0)
    → IsErrAnd result (λ e. e ≡ refusal) → P refusal → IfErr result P
passed_on (Ok x) refusal P h p = tt
passed_on (Err e) refusal P h p = rw h p
