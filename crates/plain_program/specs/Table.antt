-- The points of plain forms in the whole table, so that only the whole table has to be believed.
use Rattle.std.specs.Prelude.{◌≡◌, map, None}
use Rattle.form_points.specs.declared.act.Act.{Act as WholeAct}
use Rattle.form_points.specs.declared.act.Act.TheVariants.{Push as WholePush, Discard as WholeDiscard, Apply}
use Rattle.form_points.specs.declared.act.Opening.{Opening as WholeOpening}
use Rattle.form_points.specs.declared.act.Opening.TheVariants.{Bind as WholeBind}
use Rattle.form_points.specs.declared.act.Question.{Question as WholeQuestion}
use Rattle.form_points.specs.declared.act.Question.TheVariants.{Print as WholePrint, Read as WholeRead, Write as WholeWrite, Define as WholeDefine, IsBound, EndThread as WholeEnd}
use Rattle.lisp_program.specs.declared.function.Primitive.TheVariants.{Add as TheSum}
use Rattle.lisp_program.specs.declared.function.Printing.TheVariants.{Print as ThePrint}
use Rattle.lisp_program.specs.Forms.{Forms}
use Rattle.form_points.specs.Points.{Points as WholePoints, Done as WholeDone, Do as WholeDo, Ask as WholeAsk, Test as WholeTest, Enter as WholeEnter}
use Rattle.form_points.specs.Table.{points_of as whole_points_of, main_points as whole_main_points}
use Rattle.plain_program.specs.declared.act.Act.{Act}
use Rattle.plain_program.specs.declared.act.Act.TheVariants.{Push, Discard, Add}
use Rattle.plain_program.specs.declared.act.Opening.{Opening}
use Rattle.plain_program.specs.declared.act.Opening.TheVariants.{Bind}
use Rattle.plain_program.specs.declared.act.Question.{Question}
use Rattle.plain_program.specs.declared.act.Question.TheVariants.{Print, Read, Write, Define, EndThread}
use Rattle.plain_program.specs.Forms.{PlainForms}
use Rattle.plain_program.specs.Plain.{first_unbuilt, plain_forms, whole_forms}
use Rattle.plain_program.specs.Points.{Points, Done, Do, Ask, Test, Enter, main_points, points_of}

abbrev pub whole_act : Act → WholeAct
whole_act (Push v) = WholePush v
whole_act Discard = WholeDiscard
whole_act Add = Apply TheSum

abbrev pub whole_question : Question → WholeQuestion
whole_question Print = WholePrint ThePrint
whole_question (Read s) = WholeRead s
whole_question (Write s) = WholeWrite s
whole_question (Define s) = WholeDefine s
whole_question EndThread = WholeEnd

abbrev pub whole_opening : Opening → WholeOpening
whole_opening (Bind s above) = WholeBind s above

-- points of plain forms as those of the whole table
abbrev pub whole_points : Points → WholePoints
whole_points Done = WholeDone
whole_points (Do a p after) = WholeDo (whole_act a) p (whole_points after)
whole_points (Ask q p after) = WholeAsk (whole_question q) p (whole_points after)
whole_points (Test s p value after) = WholeTest (IsBound s) p (whole_points value) (whole_points after)
whole_points (Enter o p body after) = WholeEnter (whole_opening o) p (whole_points body) (whole_points after)

-- the points of plain forms are those of the core forms that they are
abbrev pub OneTable : Type 0
OneTable = (f : PlainForms) → map whole_points (points_of f) ≡ whole_points_of (whole_forms f)

-- the points of main are those of main in the whole table
abbrev pub OneMain : Type 0
OneMain = (f : PlainForms) → whole_points (main_points f) ≡ whole_main_points (whole_forms f)

-- where all forms are run, the plain forms are those forms
abbrev pub SameForms : Type 0
SameForms = (f : Forms) → first_unbuilt f ≡ None → whole_forms (plain_forms f) ≡ f
