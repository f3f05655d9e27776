-- What a message of the protocol means to the machine, and how the machine shows a state of the protocol.
use Rattle.std.proofs.Common.{◌≡◌, ℕ, zero, suc, ◌+◌, ◌-◌, ◌≤◌, Bool, true, false, cond, eqb, leb, List, [], ◌∷◌, ◌++◌, map, length, Some, None, Option, sym, refl, ap, ◌∙◌, inl, inr, arith, le→leb, length-append}
use mathlib.Core.Path.{fun_ext}
use Rattle.network.specs.Kinds.{kind_of}
use Rattle.network.specs.declared.message.Kind.{Kind}
use Rattle.network.specs.declared.message.Kind.TheVariants.{Query, Ts, Store, Ack, Read, Value, Stop}
use Rattle.network.specs.declared.message.Message.{Message}
use Rattle.reading.specs.Readings.{updated}
use Rattle.protocol.specs.Settings.{Setting}
use Rattle.protocol.specs.Clients.{to_all}
use Rattle.protocol.specs.Protocol.{State, lifted, lift, overfull}
use Rattle.protocol.specs.Runs.{In, here, there}
use Rattle.machine.proofs.Machine as M
use Rattle.machine.proofs.Base.{by_cond, eq_of, ge_of, true_of, in_cons}

-- two conditions that are made on one test
pub by_both : {A B : Type 0} (P : A → B → Type 0) (t : Bool) (x y : A) (x' y' : B) → (t ≡ true → P x x') → (t ≡ false → P y y') → P (cond t x y) (cond t x' y')
by_both P true x y x' y' f g = f refl
by_both P false x y x' y' f g = g refl

-- an update that changes nothing
pub updated_same : {A : Type 0} (f : ℕ → A) (i : ℕ) → updated f i (f i) ≡ f
updated_same f i = fun_ext (λ j. by_cond (λ x. x ≡ f j) (eqb i j) (f i) (f j) (λ e. ap f (eq_of i j e)) (λ e. refl))

-- a map of two parts
pub map-++ : {A B : Type 0} (f : A → B) (xs ys : List A) → map f (xs ++ ys) ≡ map f xs ++ map f ys
map-++ f [] ys = refl
map-++ f (x ∷ xs) ys = ap (λ zs. f x ∷ zs) (map-++ f xs ys)

-- a map of what goes to all
pub map_to_all : {A B : Type 0} (f : A → B) (n : ℕ) (g : ℕ → A) → map f (to_all n g) ≡ to_all n (λ b. f (g b))
map_to_all f zero g = refl
map_to_all f (suc n) g = map-++ f (to_all n g) (g n ∷ []) ∙ ap (λ zs. zs ++ (f (g n) ∷ [])) (map_to_all f n g)

-- how many messages go to all
pub length-to_all : {A : Type 0} (n : ℕ) (g : ℕ → A) → length (to_all n g) ≡ n
length-to_all zero g = refl
length-to_all (suc n) g = let a = length-append (to_all n g) (g n ∷ []) in let b = length-to_all n g in omega arith

-- an element of a map comes from one of the list
pub in_map : {A B : Type 0} (f : A → B) (y : B) (xs : List A) → In y (map f xs) → (x : A) × (y ≡ f x) × In x xs
in_map f y [] i = elim i [ ]
in_map f y (x ∷ xs) i = elim (in_cons i) [ inl e ↦ (x, e, here) | inr j ↦ (let r = in_map f y xs j in (r.0, r.1, there r.2)) ]

-- a place of a mapped list
abbrev pub map-place : {A B : Type 0} → (A → B) → Option (A × List A) → Option (B × List B)
map-place f None = None
map-place f (Some p) = Some (f p.0, map f p.1)

-- a map, and an element before the rest
pub map-lifted : {A B : Type 0} (f : A → B) (x : A) (o : Option (A × List A)) → lifted (f x) (map-place f o) ≡ map-place f (lifted x o)
map-lifted f x None = refl
map-lifted f x (Some p) = refl

-- the element at a place of a map
pub lift_map : {A B : Type 0} (f : A → B) (k : ℕ) (xs : List A) → lift k (map f xs) ≡ map-place f (lift k xs)
lift_map f k [] = refl
lift_map f zero (x ∷ xs) = refl
lift_map f (suc k) (x ∷ xs) = ap (lifted (f x)) (lift_map f k xs) ∙ map-lifted f x (lift k xs)

-- what a message of a kind means; one of no kind is never handed over, and may mean anything
abbrev pub meant : {S V : Type 0} → Option Kind → Message S V → M.Msg S V
meant None m = M.stop m.client m.server m.number
meant (Some Query) m = M.query m.client m.server m.number
meant (Some Ts) m = M.ts m.client m.server m.number m.timestamp
meant (Some Store) m = M.store m.client m.server m.number m.timestamp m.value
meant (Some Ack) m = M.ack m.client m.server m.number m.timestamp
meant (Some Read) m = M.Msg.read m.client m.server m.number
meant (Some Value) m = M.value m.client m.server m.number m.timestamp m.value
meant (Some Stop) m = M.stop m.client m.server m.number

module _ {S V : Type 0} where
  -- what a message means to the machine
  abbrev pub meaning : Message S V → M.Msg S V
  meaning m = meant (kind_of m.kind) m

  meant_server : (o : Option Kind) (m : Message S V) → M.server_of (meant o m) ≡ m.server
  meant_server None m = refl
  meant_server (Some Query) m = refl
  meant_server (Some Ts) m = refl
  meant_server (Some Store) m = refl
  meant_server (Some Ack) m = refl
  meant_server (Some Read) m = refl
  meant_server (Some Value) m = refl
  meant_server (Some Stop) m = refl

  meant_client : (o : Option Kind) (m : Message S V) → M.client_of (meant o m) ≡ m.client
  meant_client None m = refl
  meant_client (Some Query) m = refl
  meant_client (Some Ts) m = refl
  meant_client (Some Store) m = refl
  meant_client (Some Ack) m = refl
  meant_client (Some Read) m = refl
  meant_client (Some Value) m = refl
  meant_client (Some Stop) m = refl

  -- a meaning names the server of the message
  pub meaning_server : (m : Message S V) → M.server_of (meaning m) ≡ m.server
  meaning_server m = meant_server (kind_of m.kind) m

  -- a meaning names the client of the message
  pub meaning_client : (m : Message S V) → M.client_of (meaning m) ≡ m.client
  meaning_client m = meant_client (kind_of m.kind) m

  -- a state of the protocol as the machine has it, with a history
  abbrev pub shown : State S V → List (M.Event S V) → M.State S V
  shown σ h = record { faulty = σ.faulty; servers = σ.servers; clients = σ.clients; queue = map meaning σ.queue; history = h }

  -- messages sent behind the others
  pub sent_behind : (rest sent : List (Message S V)) (ms : List (M.Msg S V)) → ms ≡ map meaning sent → map meaning rest ++ ms ≡ map meaning (rest ++ sent)
  sent_behind rest sent ms e = ap (λ xs. map meaning rest ++ xs) e ∙ sym (map-++ meaning rest sent)

module _ {S V : Type 0} (K : Setting S V) where
  -- what is not overfull has room
  pub has_room : (standing sending : ℕ) → standing ≤ K.capacity → overfull K standing sending ≡ false → standing + sending ≤ K.capacity
  has_room standing sending h e = let a = ge_of (K.capacity - standing) sending e in omega arith

  -- the machine makes the step of a call that has room
  pub step_is : (τ τ' : M.State S V) (call : M.Call S V) → M.made K τ call ≡ τ' → length τ'.queue ≤ K.capacity → M.step K τ call ≡ τ'
  step_is τ τ' call e h =
      ap (λ (x : M.State S V). cond (leb (length x.queue) K.capacity) x τ) e
      ∙ ap (λ t. cond t τ' τ) (true_of (leb (length τ'.queue) K.capacity) (le→leb _ _ h))
