-- What the reader answers, from what its passes say.
use Rattle.std.specs.Str.{IsUtf8}
use Rattle.std.proofs.Common.{◌≡◌, ℕ, ◌<◌, ◌≤◌, ◌^◌, List, [], None, length, map, ap, sym, ◌∙◌, append-nil, arith}
use Rattle.std.proofs.lemmas.List.{length-map}
use Rattle.lisp_data.specs.Data.{AreWhole, Data, data_of, each, written}
use Rattle.lisp_data.specs.inside.DataCode.{data_back}
use Rattle.lisp_data.specs.declared.datum.DatumNode.{DatumNode}
use Rattle.lisp_reader.specs.inside.Build.{built}
use Rattle.lisp_reader.specs.Gathering.{Gathered, HoldsFront, gathered, with_parts}
use Rattle.lisp_reader.specs.Grammar.{data_in}
use Rattle.lisp_reader.specs.inside.Marking.{faultless, mark_of}
use Rattle.lisp_reader.specs.Parts.{Between, parts_of}
use Rattle.lisp_reader.specs.Reading.{Reads, longest}
use Rattle.lisp_reader.specs.Tables.{Tables}
use Rattle.lisp_reader.specs.declared.gather.Mark.{Mark}
use Rattle.lisp_reader.proofs.Building.{built_nodes, nodes_built}
use Rattle.lisp_reader.proofs.Few.{parts_length}
use Rattle.lisp_reader.proofs.Spells.{Spelled, spells_items}
use Rattle.lisp_reader.proofs.Used.{tables_used}

-- no part has a fault
fine : (bytes : List ℕ) (before after : Tables) → gathered [] before (parts_of bytes) ≡ faultless after
    → (gathered [] before (parts_of bytes)).fault ≡ None
fine bytes before after h = ap (λ (g : Gathered). g.fault) h

-- the tables are those with all that the text uses
used_all : (bytes : List ℕ) (before after : Tables) → gathered [] before (parts_of bytes) ≡ faultless after
    → after ≡ with_parts before (parts_of bytes)
used_all bytes before after h =
    sym (ap (λ (g : Gathered). g.tables) h) ∙ tables_used [] before (parts_of bytes) (fine bytes before after h)

-- which is a front of it
pub holds_all : (bytes : List ℕ) (before after : Tables) → gathered [] before (parts_of bytes) ≡ faultless after
    → HoldsFront (parts_of bytes) before after
holds_all bytes before after h =
    record { used = parts_of bytes; others = []; split = sym (append-nil (parts_of bytes)); tables = used_all bytes before after h }

-- there are few marks
few_by : (bytes : List ℕ) (t : Tables) (marks : List Mark) → length bytes ≤ longest → marks ≡ map (mark_of t) (parts_of bytes)
    → length marks ≤ 1048576
few_by bytes t marks short is =
    let same : length marks ≡ length (parts_of bytes) = ap length is ∙ length-map (parts_of bytes) (mark_of t) in
    omega (arith, same, short, parts_length Between 0 bytes)

pub few_marks : (bytes : List ℕ) (t : Tables) (marks : List Mark) → length bytes ≤ longest → marks ≡ map (mark_of t) (parts_of bytes)
    → length marks < 2 ^ 30
few_marks bytes t marks short is = omega (arith, few_by bytes t marks short is)

-- and few nodes
pub few_nodes : (bytes : List ℕ) (t : Tables) (marks : List Mark) (nodes : List DatumNode) → length bytes ≤ longest
    → marks ≡ map (mark_of t) (parts_of bytes) → nodes ≡ (built marks).nodes → length nodes < 2 ^ 30
few_nodes bytes t marks nodes short is made =
    let many : length nodes ≡ length (built marks).nodes = ap length made in
    omega (arith, many, built_nodes marks, few_by bytes t marks short is)

-- the nodes are those of the items that the text spells
nodes_spelled : (bytes : List ℕ) (before after : Tables) (marks : List Mark) (nodes : List DatumNode)
    → (h : gathered [] before (parts_of bytes) ≡ faultless after) → marks ≡ map (mark_of after) (parts_of bytes) → nodes ≡ (built marks).nodes
    → nodes ≡ written (data_in after (spells_items before (parts_of bytes) (fine bytes before after h)).items)
nodes_spelled bytes before after marks nodes h is made =
    let s : Spelled (parts_of bytes) = spells_items before (parts_of bytes) (fine bytes before after h) in
    made ∙ ap (λ ms. (built ms).nodes) is ∙ nodes_built after s.items (parts_of bytes) s.spells

-- they are whole
pub whole_nodes : (bytes : List ℕ) (before after : Tables) (marks : List Mark) (nodes : List DatumNode)
    → gathered [] before (parts_of bytes) ≡ faultless after → marks ≡ map (mark_of after) (parts_of bytes) → nodes ≡ (built marks).nodes
    → AreWhole nodes
whole_nodes bytes before after marks nodes h is made =
    let same = nodes_spelled bytes before after marks nodes h is made in ap (λ ns. written (data_of ns)) same ∙ ap written (data_back _) ∙ sym same

-- the text reads as their data
pub reads_nodes : (bytes : List ℕ) (before after : Tables) (marks : List Mark) (nodes : List DatumNode) (read : List Data)
    → length bytes ≤ longest → IsUtf8 bytes → gathered [] before (parts_of bytes) ≡ faultless after
    → marks ≡ map (mark_of after) (parts_of bytes) → nodes ≡ (built marks).nodes → read ≡ each (data_of nodes) → Reads bytes before after read
reads_nodes bytes before after marks nodes read short utf8 h is made same =
    let s : Spelled (parts_of bytes) = spells_items before (parts_of bytes) (fine bytes before after h) in
    let nodes' : nodes ≡ written (data_in after s.items) = nodes_spelled bytes before after marks nodes h is made in
    record {
      text = record { short = short; utf8 = utf8 };
      items = s.items;
      spells = s.spells;
      readable = fine bytes before after h;
      tables = used_all bytes before after h;
      same = same ∙ ap (λ ns. each (data_of ns)) nodes' ∙ ap each (data_back (data_in after s.items));
    }
