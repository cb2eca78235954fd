-- A law of what is said: pieces after pieces.
use Prim.Native.Nat.{ℕ}
use mathlib.Core.List.{List, [], ◌∷◌, ◌++◌}
use mathlib.Core.Path.{subst}
use Rattle.text.specs.declared.write.Cursor.{Cursor}
use Rattle.cases.specs.Answer.{Said, SayPromise}

more : (d : List ℕ) (c : Cursor) (ps qs : List (List ℕ)) (m r : Cursor) (e x : List ℕ)
    → Said d c ps m e → Said e m qs r x → Said d c (ps ++ qs) r x
more d c [] qs m r e x p q = subst (λ (k : Cursor). Said d k qs r x) p.0 (subst (λ (k : List ℕ). Said k m qs r x) p.1 q)
more d c (s ∷ ps) qs m r e x p q = (p.0, p.1, p.2, more p.1 p.0 ps qs m r e x p.3 q)

pub say_more : (d : List ℕ) (c : Cursor) (ps qs : List (List ℕ)) (m r : Cursor) (e x : List ℕ)
    → SayPromise d c ps m e → SayPromise e m qs r x → SayPromise d c (ps ++ qs) r x
say_more d c ps qs m r e x p q = record { said = more d c ps qs m r e x p.said q.said }
