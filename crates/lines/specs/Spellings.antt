-- Document 01, "The job file", with the dummies of document 02's request 5: how each form is spelled.
use Rattle.std.specs.Prelude.{ℕ, ◌≡◌, true, List, [], ◌∷◌}
use Rattle.spelling.specs.Text.{bytes}
use Rattle.spelling.specs.Decimal.{EachShort}
use Rattle.spelling.specs.Pattern.{spell}
use Rattle.forms.specs.declared.Form.{Form}
use Rattle.forms.specs.declared.Form.TheVariants.{Unknown, Heading, Metal, Fill, End}
use Rattle.forms.specs.declared.Gap.{Gap}
use Rattle.forms.specs.declared.Gap.TheVariants.{Both, Each}
use Rattle.forms.specs.declared.Kind.{Kind}
use Rattle.forms.specs.declared.Kind.TheVariants.{Drawn, Dummy}
use Rattle.forms.specs.Limits.{Limits}
use Rattle.forms.specs.Forms.{known}

-- the spellings, without the line feed; each # is a number
unfoldable pub one_gap_pattern : List ℕ
one_gap_pattern = bytes "(job (size #) (window #) (cut #) (gap #) (bounds # #) (zoom # #))"

unfoldable pub two_gaps_pattern : List ℕ
two_gaps_pattern = bytes "(job (size #) (window #) (cut #) (gap # #) (bounds # #) (zoom # #))"

-- the head's, by what it says of gaps
abbrev pub head_pattern : Gap → List ℕ
head_pattern (Both b) = one_gap_pattern
head_pattern (Each b d) = two_gaps_pattern

unfoldable pub rect_pattern : List ℕ
rect_pattern = bytes "(rect # # # #)"

unfoldable pub dummy_pattern : List ℕ
dummy_pattern = bytes "(dummy # # # #)"

-- a shape's, by its kind
abbrev pub shape_pattern : Kind → List ℕ
shape_pattern Drawn = rect_pattern
shape_pattern Dummy = dummy_pattern

unfoldable pub fill_pattern : List ℕ
fill_pattern = bytes "(fill # # #)"

unfoldable pub end_pattern : List ℕ
end_pattern = bytes "(end)"

-- the gaps, in front of the numbers that follow them
abbrev pub gap_numbers : Gap → List ℕ → List ℕ
gap_numbers (Both b) ns = b ∷ ns
gap_numbers (Each b d) ns = b ∷ d ∷ ns

-- the numbers of a form, in the order of its spelling
abbrev pub numbers_of : Form → List ℕ
numbers_of Unknown = []
numbers_of (Heading h) = h.size ∷ h.window ∷ h.cut ∷ gap_numbers h.gap (h.lower ∷ h.upper ∷ h.accuracy ∷ h.levels ∷ [])
numbers_of (Metal s) = s.rect.x1 ∷ s.rect.y1 ∷ s.rect.x2 ∷ s.rect.y2 ∷ []
numbers_of (Fill i j p) = i ∷ j ∷ p ∷ []
numbers_of End = []

-- the spelling of a form, without the line feed; a line that is none of the spellings has none
unfoldable pub spelling_of : Form → List ℕ
spelling_of Unknown = []
spelling_of (Heading h) = spell (head_pattern h.gap) (numbers_of (Heading h))
spelling_of (Metal s) = spell (shape_pattern s.kind) (numbers_of (Metal s))
spelling_of (Fill i j p) = spell fill_pattern (numbers_of (Fill i j p))
spelling_of End = spell end_pattern []

-- a line spells a form: it is the form's spelling, and no number has too many digits
pub record Spells (limits : Limits) (line : List ℕ) (f : Form) : Type 0 where
  pub is_known : known f ≡ true
  pub spelling : line ≡ spelling_of f
  pub short : EachShort limits.digits (numbers_of f)
