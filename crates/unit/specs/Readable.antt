-- A job that was read, and may be run. A buyer need not read it.
use Rattle.forms.specs.Shapes.{rectangles}
use Rattle.standing.specs.Faults.{Standing}
use Rattle.run.specs.Ready.{Ready}

abbrev pub Readable : Standing → Type 0
Readable st = Ready st.head (rectangles st.shapes) st.amounts
