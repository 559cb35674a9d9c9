-- The user of a request.
use Rattle.std.specs.Prelude.{ℕ, Bool, ◌&&◌, List, [], ◌∷◌, codes, bytes_eq, Option}
use Rattle.std.specs.List.{find}
use Rattle.config_groups.specs.declared.settings.user.User.{User}
use Rattle.sendsms_form.specs.declared.pairs.Pair.{Pair}
use Rattle.sendsms_form.specs.Pairs.{value}

-- the first octets that are some
abbrev pub first_of : List ℕ → List ℕ → List ℕ
first_of [] second = second
first_of (octet ∷ octets) second = octet ∷ octets

-- the name and the password that a request gives: each has a short name too, which counts where the long one has no value
abbrev pub user_name : List Pair → List ℕ
user_name given = first_of (value (codes "username") given) (value (codes "user") given)

abbrev pub user_password : List Pair → List ℕ
user_password given = first_of (value (codes "password") given) (value (codes "pass") given)

-- the user has this name and this password
abbrev pub is_user : (name password : List ℕ) → User → Bool
is_user name password user = bytes_eq user.username name && bytes_eq user.password password

-- the first user with the name and the password that a request gives
abbrev pub user_of : List User → List Pair → Option User
user_of users given = find (is_user (user_name given) (user_password given)) users
