pub mod KeyStream
