-- The paths of what a service has: its logs, which are in the queue of its own name, and Postfix's own socket.
use Rattle.std.specs.Prelude.{◌++◌, ℕ, List, codes}
use Rattle.dsn_text.specs.declared.service.Service.{Service}
use Rattle.dsn_text.specs.declared.service.Service.TheVariants.{Bounce, Defer, Trace}
use Rattle.dsn_postfix_queue.specs.declared.queue_folder.queue_folder.QueueFolder.{QueueFolder}
use Rattle.dsn_postfix_queue.specs.queue_folder.FolderHashing.{depth_of}
use Rattle.dsn_postfix_queue.specs.queue_folder.PathInQueue.{path_in_queue}

-- the name of a service's queue of logs, and of Postfix's own socket
abbrev pub service_name : Service → List ℕ
service_name Bounce = codes "bounce"
service_name Defer = codes "defer"
service_name Trace = codes "trace"

-- the path of a file in a queue, as deep as the settings say
abbrev pub path_as_set : QueueFolder → List ℕ → List ℕ → List ℕ
path_as_set queues queue id = path_in_queue queues.root.now queue (depth_of queues.hashing queue) id

-- the path of a service's log about a message
abbrev pub log_path : QueueFolder → Service → List ℕ → List ℕ
log_path queues service id = path_as_set queues (service_name service) id

-- the path of the socket of Postfix's own service, below the queue folder
abbrev pub own_socket_path : List ℕ → Service → List ℕ
own_socket_path root service = root ++ (codes "/private/" ++ service_name service)
