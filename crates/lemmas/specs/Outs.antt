-- Laws of answers that a bad draw may cut short. `Ends m Q B`: Q holds of the answer, or B of the search at which the draw was bad.
-- `Then m Q`: Q holds of the answer, if there is one. Assumes nothing.
use Rattle.std.specs.Prelude.{ℕ, ◌≡◌, refl}
use Rattle.std.proofs.Common.{subst}
use Rattle.rules.specs.Draws.{Out, bad, ok, bind}

pub bind_assoc {ℓ κ μ} : {A : Type ℓ} {B : Type κ} {C : Type μ} (m : Out A) (f : A → Out B) (g : B → Out C) → bind (bind m f) g ≡ bind m (λ a. bind (f a) g)
unfolding bind
bind_assoc (bad n) f g = refl
bind_assoc (ok a) f g = refl

pub bind-through {ℓ κ μ} : {A : Type ℓ} {B : Type κ} {C : Type μ} (m : Out A) (f : A → B) (g : B → Out C) → bind (bind m (λ a. ok (f a))) g ≡ bind m (λ a. g (f a))
unfolding bind
bind-through (bad n) f g = refl
bind-through (ok a) f g = refl

abbrev pub Ends {ℓ} : {A : Type ℓ} → Out A → (A → Type 0) → (ℕ → Type 0) → Type 0
Ends (bad n) Q B = B n
Ends (ok a) Q B = Q a

abbrev pub Then {ℓ} : {A : Type ℓ} → Out A → (A → Type 0) → Type 0
Then m Q = Ends m Q (λ n. Unit {0})

-- of the answer alone
pub then-ends {ℓ} : {A : Type ℓ} (m : Out A) (Q : A → Type 0) (B : ℕ → Type 0) → Ends m Q B → Then m Q
then-ends (bad n) Q B h = tt
then-ends (ok a) Q B h = h

-- through the next step
pub ends-then {ℓ κ} : {A : Type ℓ} {C : Type κ} (m : Out A) (f : A → Out C) (Q : A → Type 0) (R : C → Type 0) (B : ℕ → Type 0)
    → Ends m Q B → ((a : A) → Q a → Ends (f a) R B) → Ends (bind m f) R B
unfolding bind
ends-then (bad n) f Q R B h k = h
ends-then (ok a) f Q R B h k = k a h

pub then-then {ℓ κ} : {A : Type ℓ} {B : Type κ} (m : Out A) (f : A → Out B) (Q : A → Type 0) (R : B → Type 0) → Then m Q → ((a : A) → Q a → Then (f a) R) → Then (bind m f) R
then-then m f Q R h k = ends-then m f Q R (λ n. Unit {0}) h k

pub then-bind {ℓ κ} : {A : Type ℓ} {B : Type κ} (m : Out A) (f : A → Out B) (R : B → Type 0) → Then m (λ a. Then (f a) R) → Then (bind m f) R
then-bind m f R h = then-then m f (λ a. Then (f a) R) R h (λ a k. k)

-- whatever the answer is
pub then-any {ℓ κ} : {A : Type ℓ} {B : Type κ} (m : Out A) (f : A → Out B) (R : B → Type 0) → ((a : A) → Then (f a) R) → Then (bind m f) R
unfolding bind
then-any (bad n) f R k = tt
then-any (ok a) f R k = k a

pub ends-both {ℓ} : {A : Type ℓ} (m : Out A) (Q R : A → Type 0) (B : ℕ → Type 0) → Ends m Q B → Then m R → Ends m (λ a. Q a × R a) B
ends-both (bad n) Q R B h k = h
ends-both (ok a) Q R B h k = (h, k)

pub then-both {ℓ} : {A : Type ℓ} (m : Out A) (Q R : A → Type 0) → Then m Q → Then m R → Then m (λ a. Q a × R a)
then-both m Q R h k = ends-both m Q R (λ n. Unit {0}) h k

pub then-after {ℓ} : {A : Type ℓ} (m : Out A) (Q R : A → Type 0) → Then m Q → ((a : A) → Q a → R a) → Then m R
then-after (bad n) Q R h k = tt
then-after (ok a) Q R h k = k a h

pub always {ℓ} : {A : Type ℓ} (m : Out A) (Q : A → Type 0) → ((a : A) → Q a) → Then m Q
always (bad n) Q h = tt
always (ok a) Q h = h a

-- of a known answer
pub then-of {ℓ} : {A : Type ℓ} (Q : A → Type 0) (m : Out A) (a : A) → m ≡ ok a → Then m Q → Q a
then-of Q m a e h = subst (λ x. Then x Q) e h

-- and of a known bad draw
pub ends-bad {ℓ} : {A : Type ℓ} (Q : A → Type 0) (B : ℕ → Type 0) (m : Out A) (n : ℕ) → m ≡ bad n → Ends m Q B → B n
ends-bad Q B m n e h = subst (λ x. Ends x Q B) e h

-- two ways on that agree
pub bind_all {ℓ κ} : {A : Type ℓ} {B : Type κ} (m : Out A) (f g : A → Out B) → ((a : A) → f a ≡ g a) → bind m f ≡ bind m g
unfolding bind
bind_all (bad n) f g e = refl
bind_all (ok a) f g e = e a

-- and that agree at each answer of which Q holds
pub bind-same {ℓ κ} : {A : Type ℓ} {B : Type κ} (m : Out A) (f g : A → Out B) (Q : A → Type 0) → Then m Q → ((a : A) → Q a → f a ≡ g a) → bind m f ≡ bind m g
unfolding bind
bind-same (bad n) f g Q h e = refl
bind-same (ok a) f g Q h e = e a h

-- ---- two answers side by side: bad at the same search, or two that R holds of

abbrev pub Both {ℓ κ} : {A : Type ℓ} {B : Type κ} → (A → B → Type 0) → Out A → Out B → Type 0
Both R (bad m) (bad n) = m ≡ n
Both R (bad m) (ok b) = ⊥
Both R (ok a) (bad n) = ⊥
Both R (ok a) (ok b) = R a b

pub both-then {ℓ κ μ ν} : {A : Type ℓ} {B : Type κ} {C : Type μ} {D : Type ν} (Q : A → B → Type 0) (R : C → D → Type 0) (m : Out A) (n : Out B) (f : A → Out C) (g : B → Out D)
    → Both Q m n → ((a : A) (b : B) → Q a b → Both R (f a) (g b)) → Both R (bind m f) (bind n g)
unfolding bind
both-then Q R (bad m) (bad n) f g h k = h
both-then Q R (bad m) (ok b) f g h k = absurd h
both-then Q R (ok a) (bad n) f g h k = absurd h
both-then Q R (ok a) (ok b) f g h k = k a b h

-- after one and the same answer
pub both-same {ℓ μ ν} : {A : Type ℓ} {C : Type μ} {D : Type ν} (Q : A → Type 0) (R : C → D → Type 0) (m : Out A) (f : A → Out C) (g : A → Out D)
    → Then m Q → ((a : A) → Q a → Both R (f a) (g a)) → Both R (bind m f) (bind m g)
unfolding bind
both-same Q R (bad n) f g h k = refl
both-same Q R (ok a) f g h k = k a h

pub both-any {ℓ μ ν} : {A : Type ℓ} {C : Type μ} {D : Type ν} (R : C → D → Type 0) (m : Out A) (f : A → Out C) (g : A → Out D)
    → ((a : A) → Both R (f a) (g a)) → Both R (bind m f) (bind m g)
unfolding bind
both-any R (bad n) f g k = refl
both-any R (ok a) f g k = k a

-- with what is known of the first
pub both-with {ℓ κ} : {A : Type ℓ} {B : Type κ} (R : A → B → Type 0) (Q : A → Type 0) (m : Out A) (n : Out B) → Both R m n → Then m Q → Both (λ a b. R a b × Q a) m n
both-with R Q (bad m) (bad n) h k = h
both-with R Q (bad m) (ok b) h k = absurd h
both-with R Q (ok a) (bad n) h k = absurd h
both-with R Q (ok a) (ok b) h k = (h, k)

pub both-after {ℓ κ} : {A : Type ℓ} {B : Type κ} (Q R : A → B → Type 0) (m : Out A) (n : Out B) → Both Q m n → ((a : A) (b : B) → Q a b → R a b) → Both R m n
both-after Q R (bad m) (bad n) h k = h
both-after Q R (bad m) (ok b) h k = absurd h
both-after Q R (ok a) (bad n) h k = absurd h
both-after Q R (ok a) (ok b) h k = k a b h

-- of the first alone
pub both_first {ℓ κ} : {A : Type ℓ} {B : Type κ} (Q : A → B → Type 0) (R : A → Type 0) (m : Out A) (n : Out B) → Both Q m n → ((a : A) (b : B) → Q a b → R a) → Then m R
both_first Q R (bad m) n h k = tt
both_first Q R (ok a) (bad n) h k = absurd h
both_first Q R (ok a) (ok b) h k = k a b h
