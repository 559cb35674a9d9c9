-- What a worker leaves, as far as a contract reads it.
use Rattle.std.specs.Prelude.{◌≡◌, ℕ, List, [], ◌∷◌, Option, None, IfSome, IsSomeAnd}
use Rattle.peer_dialer.specs.declared.closed.Closed.{Closed}
use Rattle.sendsms_http.specs.declared.http_end.HttpEnd.{HttpEnd}
use Rattle.boxes_main.specs.declared.command_end.Role.{Role}
use Rattle.boxes_main.specs.declared.command_end.Role.TheVariants as role_is
use Rattle.boxes_main.specs.declared.command_end.SessionEnd.{SessionEnd}
use Rattle.boxes_main.specs.declared.command_end.SessionEnd.TheVariants as ended_as
use Rattle.boxes_main.specs.declared.command_end.WorkerEnd.{WorkerEnd}

-- its role, its clock and its dialer, where it took one, the ends of its sessions in order, and what became of the connections that it dialled
pub record Worker (C L : Type 0) : Type 0 where
  pub role : Role
  pub clock : Option C
  pub dialer : Option L
  pub ends : List SessionEnd
  pub pasts : List Closed

-- what is left in a house with these types
abbrev pub worker_of : {H V D C L S O E P : Type 0} → WorkerEnd H V D C L S O E P → Worker C L
worker_of left = record { role = left.role; clock = left.clock; dialer = left.dialer; ends = left.ends; pasts = left.pasts }

-- a clock was read so and no more, where it tells that
abbrev pub WasRead : {C : Type 0} → (told : C → Option (List ℕ)) → Option C → List ℕ → Type 0
WasRead told clock readings = IsSomeAnd clock (λ clock. IfSome (told clock) (λ all. all ≡ readings))

-- The worker of one session over HTTP: its clock, and the session's end. It dialled nothing.
pub record IsHttpWorker {C L : Type 0} (told : C → Option (List ℕ)) (worker : Worker C L) (readings : List ℕ) (end : HttpEnd) : Type 0 where
  pub role : worker.role ≡ role_is.Http
  pub clock : WasRead told worker.clock readings
  pub no_dialer : worker.dialer ≡ None
  pub ends : worker.ends ≡ ended_as.Http end ∷ []
  pub no_pasts : worker.pasts ≡ []
