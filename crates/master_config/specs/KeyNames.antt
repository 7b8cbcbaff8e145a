-- The keys as they are written: those of a configuration, and those that a socket can have.
use Rattle.std.specs.Prelude.{ℕ, List, codes}
use Rattle.master_config.specs.declared.key.Key.{Key}
use Rattle.master_config.specs.declared.key.Key.TheVariants.{Command, Groups, Listeners, Pid, Retries, Service, Sockets, Surge, Timeout, Workers}
use Rattle.master_config.specs.declared.socket_key.SocketKey.{SocketKey}
use Rattle.master_config.specs.declared.socket_key.SocketKey.TheVariants as socket

abbrev pub key_name : Key → List ℕ
key_name Command = codes "command"
key_name Groups = codes "groups"
key_name Listeners = codes "listeners"
key_name Pid = codes "pid"
key_name Retries = codes "retries"
key_name Service = codes "service"
key_name Sockets = codes "sockets"
key_name Surge = codes "surge"
key_name Timeout = codes "timeout"
key_name Workers = codes "workers"

abbrev pub socket_key_name : SocketKey → List ℕ
socket_key_name socket.Backlog = codes "backlog"
socket_key_name socket.DeferAccept = codes "defer_accept"
socket_key_name socket.Group = codes "group"
socket_key_name socket.Mode = codes "mode"
socket_key_name socket.Owner = codes "owner"
