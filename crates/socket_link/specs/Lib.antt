pub mod Sockets
pub mod TcpNets
pub mod Threads
pub mod Spawners
