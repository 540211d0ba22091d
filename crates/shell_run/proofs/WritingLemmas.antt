-- What a sink has taken, piece by piece.
use Rattle.std.proofs.Common.{◌≡◌, ◌≢◌, ℕ, ◌-◌, List, [], ◌∷◌, ◌++◌, length, take, drop, Option, Some, None, refl, ap, sym, ◌∙◌, append_assoc, subst, arith}
use Rattle.std.proofs.lemmas.Grind.{common_steps}
use Rattle.std.specs.Io.KnownBytes.{Appends}
use Rattle.std.proofs.lemmas.List.{take-append-drop}
use Rattle.edge_io.specs.Told.{StillTold}
use Rattle.shell_run.specs.Progress.{TookCut}
use Rattle.shell_run.specs.Ran.{Took}

pub append_nil : (xs : List ℕ) → xs ≡ xs ++ []
append_nil [] = refl
append_nil (x ∷ xs) = ap (λ ys. x ∷ ys) (append_nil xs)

pub Appends-nil : (told : Option (List ℕ)) → Appends told told []
Appends-nil None = tt
Appends-nil (Some xs) = append_nil xs

pub Appends-append : (t0 t1 t2 : Option (List ℕ)) (a b : List ℕ) → Appends t0 t1 a → Appends t1 t2 b → Appends t0 t2 (a ++ b)
Appends-append None t1 t2 a b p q = tt
Appends-append (Some xs) None t2 a b p q = absurd p
Appends-append (Some xs) (Some ys) None a b p q = absurd q
Appends-append (Some xs) (Some ys) (Some zs) a b p q = q ∙ ap (λ ws. ws ++ b) p ∙ append_assoc xs a b

-- A sink that has taken a still tells that, or nothing.
pub Took-kept : (t0 t1 t2 : Option (List ℕ)) (a : List ℕ) → Appends t0 t1 a → StillTold t1 t2 → Took t0 t2 a
Took-kept None t1 t2 a p q = tt
Took-kept (Some xs) None t2 a p q = absurd p
Took-kept (Some xs) (Some ys) None a p q = tt
Took-kept (Some xs) (Some ys) (Some zs) a p q = q ∙ p

pub Took-from_Appends : (t0 t1 : Option (List ℕ)) (a : List ℕ) → Appends t0 t1 a → Took t0 t1 a
Took-from_Appends None t1 a p = tt
Took-from_Appends (Some xs) None a p = absurd p
Took-from_Appends (Some xs) (Some ys) a p = p

pub Took-after : (t0 t1 t2 : Option (List ℕ)) (a b : List ℕ) → Appends t0 t1 a → Took t1 t2 b → Took t0 t2 (a ++ b)
Took-after None t1 t2 a b p q = tt
Took-after (Some xs) None t2 a b p q = absurd p
Took-after (Some xs) (Some ys) None a b p q = tt
Took-after (Some xs) (Some ys) (Some zs) a b p q = q ∙ ap (λ ws. ws ++ b) p ∙ append_assoc xs a b

-- some of the bytes are written, and the rest is to come
pub record Writing (bytes rest : List ℕ) (before after : Option (List ℕ)) : Type 0 where
  pub done : List ℕ
  pub split : bytes ≡ done ++ rest
  pub taken : Appends before after done

pub writing_none : (bytes : List ℕ) (told : Option (List ℕ)) → Writing bytes bytes told told
writing_none bytes told = record { done = []; split = refl; taken = Appends-nil told }

pub writing_more : (n : ℕ) (bytes rest : List ℕ) (t0 t1 t2 : Option (List ℕ)) → Writing bytes rest t0 t1 → Appends t1 t2 (take n rest)
    → Writing bytes (take (length rest - n) (drop n rest)) t0 t2
writing_more n bytes rest t0 t1 t2 w more =
    let all : take (length rest - n) (drop n rest) ≡ drop n rest = grind (arith, common_steps) in
    rw all (record {
      done = w.done ++ take n rest;
      split = w.split ∙ sym (append_assoc w.done (take n rest) (drop n rest) ∙ ap (λ ys. w.done ++ ys) (take-append-drop n rest));
      taken = Appends-append t0 t1 t2 w.done (take n rest) w.taken more;
    })

pub writing_stopped : (bytes rest : List ℕ) (t0 t1 t2 : Option (List ℕ)) → Writing bytes rest t0 t1 → rest ≢ [] → StillTold t1 t2 → TookCut bytes t0 t2
writing_stopped bytes rest t0 t1 t2 w some told = record {
  part = w.done;
  taken = Took-kept t0 t1 t2 w.done w.taken told;
  is_cut = (rest, w.split, some);
}

pub writing_all : (bytes rest : List ℕ) (t0 t1 : Option (List ℕ)) → Writing bytes rest t0 t1 → rest ≡ [] → Appends t0 t1 bytes
writing_all bytes rest t0 t1 w none =
    let all : bytes ≡ w.done = w.split ∙ ap (λ ys. w.done ++ ys) none ∙ sym (append_nil w.done) in
    let P : List ℕ → Type 0 = λ xs. Appends t0 t1 xs in
    subst P (sym all) w.taken
