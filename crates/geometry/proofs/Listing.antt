-- Lists of places that grow by one.
use Prim.Native.Nat.{ℕ, zero, suc, ◌+◌, ◌<◌}
use mathlib.Core.Path.{◌≡◌, ap, ◌∙◌}
use mathlib.Core.List.{List, [], ◌∷◌, ◌++◌}
use native.Mathlib.Numerals.{add-one}
use native.Mathlib.Omega.{arith}
use lib.ListN.{length, take, set}
use lib.Seq.{take-suc-set}
use Rattle.std.specs.List.{All}
use Rattle.std.proofs.lemmas.List.Elements.{All-append}
use Rattle.geometry.specs.Places.{Listed}

pub listed_more : {X : Type 0} (t : List X) (ps : List ℕ) (p : ℕ) → Listed t ps → p < length t → Listed t (ps ++ (p ∷ []))
listed_more t ps p l h = All-append (λ q. q < length t) ps (p ∷ []) l one
  where
    one : All (λ q. q < length t) (p ∷ [])
    one zero d k = h
    one (suc i) d k = absurd (omega arith)

-- the first n of a list, with another one behind them
pub kept_more : (own : List ℕ) (n p : ℕ) → n < length own → take (n + 1) (set own n p) ≡ take n own ++ (p ∷ [])
kept_more own n p h = ap (λ (m : ℕ). take m (set own n p)) (add-one n) ∙ take-suc-set own n p h
