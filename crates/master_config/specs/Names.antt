-- The keys of a configuration, of a group in it, and of a socket.
use Rattle.std.specs.Prelude.{ℕ, Bool, ◌||◌, List, bytes_eq, codes, if◌then◌else◌}
use Rattle.master_config.specs.Addresses.{is_path}

abbrev pub is_known : List ℕ → Bool
is_known name = bytes_eq name (codes "command") || bytes_eq name (codes "groups") || bytes_eq name (codes "listeners") || bytes_eq name (codes "pid") || bytes_eq name (codes "retries") || bytes_eq name (codes "service") || bytes_eq name (codes "sockets") || bytes_eq name (codes "surge") || bytes_eq name (codes "timeout") || bytes_eq name (codes "workers")

abbrev pub is_of_group : List ℕ → Bool
is_of_group name = bytes_eq name (codes "listeners") || bytes_eq name (codes "workers")

-- the keys of a socket that is a file, and of another
abbrev pub is_of_path : List ℕ → Bool
is_of_path name = bytes_eq name (codes "backlog") || bytes_eq name (codes "group") || bytes_eq name (codes "mode") || bytes_eq name (codes "owner")

abbrev pub is_of_port : List ℕ → Bool
is_of_port name = bytes_eq name (codes "backlog") || bytes_eq name (codes "defer_accept")

-- those of the socket at an address
abbrev pub is_of_socket : List ℕ → List ℕ → Bool
is_of_socket address = if is_path address then is_of_path else is_of_port
