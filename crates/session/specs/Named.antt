-- What message 1 says of the user (the Standard, 13.20; docs/RULES.md, 7.2 and 7.14).
use Rattle.std.specs.Prelude.{ℕ, ◌≤◌, true, List, ◌≡◌, length, drop}
use Rattle.messages.specs.Name.{allowed, longest_name}
use Rattle.session.specs.Constants.{one_size}
use Rattle.session.specs.System.{name_size_in}

-- message 1 names this user: the name is a legal one, its length stands at 27, and from 28 to the message's end there is the name and
-- nothing else
pub record NamesUser (one name : List ℕ) : Type 0 where
  pub short : length name ≤ longest_name
  pub legal : allowed name ≡ true
  pub size : length one ≡ one_size (length name)
  pub count : name_size_in one ≡ length name
  pub rest : drop 28 one ≡ name
